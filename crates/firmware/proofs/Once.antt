-- Two answers that the contract of a call from C allows are equal, with all that they leave.
-- Assumes nothing.
use Prim.Native.Nat.{ℕ}
use mathlib.Core.List.{List}
use mathlib.Core.Path.{◌≡◌, sym, ◌∙◌}
use lib.IntN.{ℤ}
use Rattle.firmware.specs.Replied.{Replied}
use Rattle.firmware.specs.Told.{ToldSaved, ToldLoaded, ToldWhy}

module _ {unit x y : List ℕ} {r s : ℤ} where
  pub replied_once : {frame reply a b : List ℕ} → Replied unit frame reply x a r → Replied unit frame reply y b s → (r ≡ s) × (x ≡ y) × (a ≡ b)
  replied_once p q = (p.count ∙ sym q.count, p.state ∙ sym q.state, p.bytes ∙ sym q.bytes)

  pub saved_once : {image : List ℕ} → ToldSaved unit image x r → ToldSaved unit image y s → (r ≡ s) × (x ≡ y)
  saved_once p q = (p.answered ∙ sym q.answered, p.bytes ∙ sym q.bytes)

  pub loaded_once : {image : List ℕ} → ToldLoaded unit image x r → ToldLoaded unit image y s → (r ≡ s) × (x ≡ y)
  loaded_once p q = (p.answered ∙ sym q.answered, p.state ∙ sym q.state)

  pub why_once : {trail : List ℕ} {output : ℕ} → ToldWhy unit output trail x r → ToldWhy unit output trail y s → (r ≡ s) × (x ≡ y)
  why_once p q = (p.answer ∙ sym q.answer, p.bytes ∙ sym q.bytes)
