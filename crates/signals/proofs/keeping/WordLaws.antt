-- What two words keep of a signal: it is read back as it was laid down.
-- Assumes nothing.
use Prim.Native.Nat.{ℕ, suc, ◌-◌, ◌*◌, ◌%◌, ◌<◌}
use mathlib.Core.Bool.{true, false}
use mathlib.Core.Path.{◌≡◌, refl, ap}
use native.Mathlib.Omega.{arith}
use borrow.Author.Tests.{lt-ltb, le-ltb, eq-eqb}
use lib.Dec.{T}
use lib.IntN.{ℤ, pos, negsuc}
use lib.Ieee.{Float, nan, inf, fin, binary32, fits, eq, is_nan, to_bits, up, down}
use lib.Ieee.Bits.{of_bits-to_bits, nan_bits_is}
use mir.Syntax.{w16}
use mir.Val.{SFits}
use Rattle.numbers.specs.Choice.{first}
use Rattle.numbers.specs.Signed.{twos, signed16, pattern16}
use Rattle.signals.specs.Words.{kind_of, number_of_signal, real_of, of_words}
use Rattle.signals.specs.declared.signal.Signal.{Signal}
use Rattle.signals.specs.declared.signal.Signal.TheVariants.{Whole, Real, Error, Absent}

-- an INTEGER16, and a REAL32 that is a number
pub data Kept : Signal → Type 0 where
  whole : {v : ℤ} → SFits w16 v → Kept (Whole v)
  real : {x : Float} → T (fits binary32 x) → is_nan x ≡ false → Kept (Real x)
  error : Kept Error
  absent : Kept Absent

-- the pattern of an INTEGER16 is read as that number
pub pattern_read : (v : ℤ) → SFits w16 v → signed16 (pattern16 v) ≡ v
unfolding signed16 pattern16 twos first
pattern_read (pos n) f =
    let h : n < 32768 = f.sfits in
    let e : n % 0x10000 ≡ n = omega arith in
    rw (e, lt-ltb n 0x8000 h)
pattern_read (negsuc n) f =
    let h : n < 32768 = f.sfits in
    let e : (0xFFFF - n) % 0x10000 ≡ 0xFFFF - n = omega arith in
    let m : 0x10000 - (0xFFFF - n) ≡ suc n = omega arith in
    rw (e, le-ltb (0xFFFF - n) 0x8000 (omega arith), m)

-- only what is no number is not equal to itself
pub not_itself : (x : Float) → is_nan x ≡ true → eq x x ≡ false
unfolding is_nan eq
not_itself nan e = refl
not_itself (inf s) e = absurd (let z : ◌≡◌ {A = ℕ} 0 1 = cc in omega arith)
not_itself (fin s m k) e = absurd (let z : ◌≡◌ {A = ℕ} 0 1 = cc in omega arith)

pub itself : (x : Float) → is_nan x ≡ false → eq x x ≡ true
unfolding is_nan eq
itself nan e = absurd (let z : ◌≡◌ {A = ℕ} 0 1 = cc in omega arith)
itself (inf true) e = refl
itself (inf false) e = refl
itself (fin true m k) e = rw (eq-eqb (m * up k * down k) (m * up k * down k) refl)
itself (fin false m k) e = rw (eq-eqb (m * up k * down k) (m * up k * down k) refl)

real_read : (x : Float) → T (fits binary32 x) → is_nan x ≡ false → real_of (first (eq x x) (to_bits binary32 x) 0) ≡ x
unfolding real_of first
real_read x f e =
    let back = of_bits-to_bits binary32 x f in
    rw (itself x e, nan_bits_is binary32 (to_bits binary32 x), back, e)

pub read_back : (s : Signal) → Kept s → of_words (kind_of s) (number_of_signal s) ≡ s
unfolding of_words kind_of number_of_signal first
read_back (Whole v) (whole f) = ap Whole (pattern_read v f)
read_back (Real x) (real f e) = ap Real (real_read x f e)
read_back Error error = refl
read_back Absent absent = refl
