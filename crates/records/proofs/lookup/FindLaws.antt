-- Looking a name up, record after record.
-- Assumes nothing.
use mathlib.Core.Path.{◌≡◌, sym, ap, ◌∙◌}
use mathlib.Core.Bool.{Bool, true, false, ◌&&◌}
use mathlib.Core.List.{List, []}
use Prim.Native.Nat.{ℕ, suc, ◌+◌, ◌-◌, ◌<◌, ◌≤◌}
use native.Mathlib.Omega.{arith}
use lib.Dec.{eqb, ltb}
use lib.ListN.{length, take, drop, length-drop}
use lib.Seq.{take_all}
use borrow.Author.Tests.{lt-ltb, le-ltb}
use Rattle.octets.specs.Little.{little}
use Rattle.numbers.specs.Choice.{first}
use Rattle.records.specs.LookUp.{looked, look_up}
use Rattle.records.specs.Walk.{index_in, sub_in, size_in}
use Rattle.records.proofs.WalkLaws.{onward}

module _ (left next index sub : ℕ) (rest : List ℕ) {whole : List ℕ} (inv : whole ≡ looked left index sub rest) (more : left ≡ suc next) where
  again : whole ≡ first (ltb (length rest) 7) [] (first (ltb (length rest) (7 + size_in rest)) []
      (first (eqb (index_in rest) index && eqb (sub_in rest) sub) (take (size_in rest) (drop 7 rest)) (looked next index sub (drop (7 + size_in rest) rest))))
  unfolding looked
  again = inv ∙ ap (λ (n : ℕ). looked n index sub rest) more

  pub head_cut : length rest < 7 → [] ≡ whole
  unfolding first
  head_cut h = sym (again ∙ rw (lt-ltb (length rest) 7 h))

  module _ (h : 7 ≤ length rest) {size : ℕ} (s : size ≡ size_in rest) where
    pub data_cut : length rest < 7 + size → [] ≡ whole
    unfolding first
    data_cut k = sym (again ∙ rw (le-ltb (length rest) 7 h, ← s, lt-ltb (length rest) (7 + size) k))

    module _ (k : 7 + size ≤ length rest) {b : Bool} (n : b ≡ eqb (index_in rest) index && eqb (sub_in rest) sub) where
      -- a record that is there has the name, or the search goes on behind it
      pub there : whole ≡ first b (take size (drop 7 rest)) (looked next index sub (drop (7 + size) rest))
      unfolding first
      there = again ∙ rw (le-ltb (length rest) 7 h, ← s, le-ltb (length rest) (7 + size) k, ← n)

      pub here : b ≡ true → take (7 + size - 7) (drop 7 rest) ≡ whole
      unfolding first
      here t = let same : 7 + size - 7 ≡ size = omega arith in rw same (sym (there ∙ rw t))

      pub not_here : b ≡ false → whole ≡ looked next index sub (onward (7 + size) rest)
      unfolding first
      not_here t =
          let room = length-drop (7 + size) rest in
          let part = take_all (length rest - (7 + size)) (drop (7 + size) rest) (omega arith) in
          rw part (there ∙ rw t)

pub nowhere : (left index sub : ℕ) (rest : List ℕ) {whole : List ℕ} → whole ≡ looked left index sub rest → left ≤ 0 → [] ≡ whole
unfolding looked
nowhere left index sub rest inv h = let none : left ≡ 0 = omega arith in sym (inv ∙ rw none)

pub no_count : (image : List ℕ) (index sub : ℕ) → length image < 4 → [] ≡ look_up image index sub
unfolding look_up first
no_count image index sub h = rw (lt-ltb (length image) 4 h)

pub counted : (image : List ℕ) (index sub : ℕ) → 4 ≤ length image → look_up image index sub ≡ looked (little (take 4 image)) index sub (drop 4 image)
unfolding look_up first
counted image index sub h = rw (le-ltb (length image) 4 h)

pub behind_count : (image : List ℕ) (index sub : ℕ) → 4 ≤ length image → {n : ℕ} → n ≡ little (take 4 image)
    → looked n index sub (onward 4 image) ≡ look_up image index sub
behind_count image index sub h e =
    let room = length-drop 4 image in
    let part = take_all (length image - 4) (drop 4 image) (omega arith) in
    rw (e, part) (sym (counted image index sub h))
