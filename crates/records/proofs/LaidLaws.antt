-- Bytes copied to their place in a buffer, and the bytes of a number.
-- Assumes nothing.
use mathlib.Core.Path.{◌≡◌, refl, sym, ap, ◌∙◌}
use mathlib.Core.List.{List, ◌∷◌, append_assoc}
use Prim.Native.Nat.{ℕ, zero, suc, ◌+◌, ◌≤◌, ◌/◌, ◌%◌}
use native.Mathlib.Nat.{le_of_suc-le-suc, not-suc-le-zero, div-div-eq-div-mul}
use lib.ListN.{length, take, drop}
use lib.Seq.{sets, sets-eq, drop-drop}
use borrow.Rule.Slice.PartMut.{put_mid}
use mir.Syntax.{w32, w64}
use Rattle.std.specs.Int.{to_le_bytes}
use Rattle.octets.specs.Little.{bytes}

-- what was copied stands at its place, and all else as it was
pub laid : (l : List ℕ) (at : ℕ) {k : ℕ} {ys : List ℕ} (zs : List ℕ) → ys ≡ zs → k ≡ length zs → at + length zs ≤ length l → put_mid at k l ys ≡ sets l at zs
laid l at zs e q h =
    rw (e, q, sets-eq zs l at h, drop-drop (length zs) at l) (sym (append_assoc (take at l) zs (drop (at + length zs) l)))

fewer : (k m n : ℕ) → k ≤ m → take k (bytes m n) ≡ bytes k n
unfolding bytes
fewer zero m n h = refl
fewer (suc k) zero n h = absurd (not-suc-le-zero h)
fewer (suc k) (suc m) n h = ap (λ (l : List ℕ). n % 256 ∷ l) (fewer k m (n / 256) (le_of_suc-le-suc h))

-- "low byte first"
pub low_first : (k n : ℕ) → k ≤ 4 → take k (to_le_bytes w32 n) ≡ bytes k n
unfolding bytes
low_first k n h = ap (take k) all ∙ fewer k 4 n h
  where
    all : to_le_bytes w32 n ≡ bytes 4 n
    all = rw (div-div-eq-div-mul n 256 256, div-div-eq-div-mul n 65536 256)

pub low_four : (n : ℕ) → take 4 (to_le_bytes w64 n) ≡ bytes 4 n
unfolding bytes
low_four n = rw (div-div-eq-div-mul n 256 256, div-div-eq-div-mul n 65536 256)
