-- What serving leaves: the word that an answer writes, and a reply's bytes.
-- Assumes nothing.
use mathlib.Core.Path.{◌≡◌, refl, ap, ◌∙◌}
use mathlib.Core.List.{List, [], ◌∷◌, ◌++◌}
use Prim.Native.Nat.{ℕ, zero, suc, ◌/◌, ◌%◌, ◌≤◌}
use native.Mathlib.Nat.{not-suc-le-zero, le_of_suc-le-suc}
use native.Mathlib.Omega.{arith}
use lib.ListN.{length, get_or, set, drop}
use lib.Seq.{drop-cons}
use Rattle.std.specs.Prelude.{Some, None, Result, Ok, Err}
use Rattle.std.specs.Int.{to_le_bytes, w32}
use Rattle.octets.specs.Little.{bytes}
use Rattle.sdo.specs.Frames.{name_in, reply, reply_to}
use Rattle.sdo.specs.Served.{filled}
use Rattle.sdo.specs.declared.types.Abort.{Abort}
use Rattle.sdo.specs.declared.types.Done.{Done}
use Rattle.sdo.specs.declared.types.Done.TheVariants.{Value, Written}

-- eight stores at the front of a list
first_eight : (l : List ℕ) → 8 ≤ length l → l ≡ get_or l 0 0 ∷ get_or l 1 0 ∷ get_or l 2 0 ∷ get_or l 3 0 ∷ get_or l 4 0 ∷ get_or l 5 0 ∷ get_or l 6 0 ∷ get_or l 7 0 ∷ drop 8 l
first_eight l h =
    drop-cons l 0 0 (omega arith)
    ∙ ap (λ (m : List ℕ). get_or l 0 0 ∷ m) (drop-cons l 1 0 (omega arith)
    ∙ ap (λ (m : List ℕ). get_or l 1 0 ∷ m) (drop-cons l 2 0 (omega arith)
    ∙ ap (λ (m : List ℕ). get_or l 2 0 ∷ m) (drop-cons l 3 0 (omega arith)
    ∙ ap (λ (m : List ℕ). get_or l 3 0 ∷ m) (drop-cons l 4 0 (omega arith)
    ∙ ap (λ (m : List ℕ). get_or l 4 0 ∷ m) (drop-cons l 5 0 (omega arith)
    ∙ ap (λ (m : List ℕ). get_or l 5 0 ∷ m) (drop-cons l 6 0 (omega arith)
    ∙ ap (λ (m : List ℕ). get_or l 6 0 ∷ m) (drop-cons l 7 0 (omega arith))))))))

pub eight_stores : (l : List ℕ) → 8 ≤ length l → (a b c d e f g h : ℕ)
    → set (set (set (set (set (set (set (set l 0 a) 1 b) 2 c) 3 d) 4 e) 5 f) 6 g) 7 h ≡ (a ∷ b ∷ c ∷ d ∷ e ∷ f ∷ g ∷ h ∷ []) ++ drop 8 l
eight_stores l n a b c d e f g h =
    ap (λ (m : List ℕ). set (set (set (set (set (set (set (set m 0 a) 1 b) 2 c) 3 d) 4 e) 5 f) 6 g) 7 h) (first_eight l n)

-- a store past the end changes nothing
pub set_past : (l : List ℕ) (i v : ℕ) → length l ≤ i → set l i v ≡ l
set_past [] i v h = refl
set_past (x ∷ xs) zero v h = absurd (not-suc-le-zero h)
set_past (x ∷ xs) (suc i) v h = ap (λ (l : List ℕ). x ∷ l) (set_past xs i v (le_of_suc-le-suc h))

-- a number's bytes as the library takes them
pub le_bytes : (n : ℕ) → to_le_bytes w32 n ≡ bytes 4 n
unfolding bytes
le_bytes n =
    let second : n / 0x10000 % 0x100 ≡ n / 256 / 256 % 256 = omega arith in
    let third : n / 0x1000000 % 0x100 ≡ n / 256 / 256 / 256 % 256 = omega arith in
    rw (second, third)

-- ---- a reply has eight bytes, and they stand at the front of the buffer

pub eight : (frame : List ℕ) (d : Result Done Abort) → length (reply_to frame (Some d)) ≡ 8
unfolding reply_to reply name_in bytes
eight frame (Err a) = refl
eight frame (Ok (Value word size)) = refl
eight frame (Ok (Written slot word)) = refl

pub sent : (buffer frame : List ℕ) (d : Result Done Abort) → reply_to frame (Some d) ++ drop 8 buffer ≡ filled buffer frame (Some d)
unfolding filled
sent buffer frame d = rw (eight frame d)

pub sent_nothing : (buffer frame : List ℕ) → buffer ≡ filled buffer frame None
unfolding filled reply_to
sent_nothing buffer frame = refl
