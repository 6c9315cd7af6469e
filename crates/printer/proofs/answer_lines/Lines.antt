-- A line's parts put together.
-- Assumes nothing.
use Prim.Native.Nat.{ℕ, ◌+◌, ◌<◌, ◌≤◌}
use mathlib.Core.List.{map, List, [], ◌∷◌, ◌++◌, append_assoc, append-nil}
use mathlib.Core.Path.{◌≡◌, refl, ap, sym}
use native.Mathlib.Numerals.{add-one}
use borrow.Author.Tests.{lt-ltb, le-ltb}
use lib.IntN.{ℤ}
use lib.ListN.{length, take, get_or}
use lib.Seq.{take-suc}
use Rattle.numbers.specs.Choice.{first}
use Rattle.printer.specs.Printing.{hex2, each, decimal, spaced, ended, reply_line, tick_line}

pub reply_short : (reply : List ℕ) → length reply < 8 → reply_line reply ≡ []
unfolding reply_line first
reply_short reply h = rw (lt-ltb (length reply) 8 h)

pub reply_long : (reply : List ℕ) → 8 ≤ length reply → reply_line reply ≡ each hex2 (take 8 reply) ++ 0x0A ∷ []
unfolding reply_line ended first
reply_long reply h = rw (le-ltb (length reply) 8 h)

module _ {A : Type 0} (bytes : A → List ℕ) where
  each_append : (xs ys : List A) → each bytes (xs ++ ys) ≡ each bytes xs ++ each bytes ys
  unfolding each
  each_append [] ys = refl
  each_append (x ∷ xs) ys = rw (each_append xs ys) (sym (append_assoc (bytes x) (each bytes xs) (each bytes ys)))

  pub each_next : (xs : List A) (k : ℕ) (d : A) → k < length xs → each bytes (take (k + 1) xs) ≡ each bytes (take k xs) ++ bytes (get_or xs k d)
  unfolding each
  each_next xs k d h =
      rw (add-one, take-suc xs k d h, each_append (take k xs))
      (ap (λ (x : List ℕ). each bytes (take k xs) ++ x) (append-nil (bytes (get_or xs k d))))

-- a command as it is put, with the space before it
unfoldable pub command_put : ℤ → List ℕ
command_put v = 0x20 ∷ decimal v

spaced_put : (f : List ℕ) (commands : List ℤ) (h : List ℕ) → spaced (f ∷ map decimal commands ++ h ∷ []) ≡ f ++ each command_put commands ++ 0x20 ∷ h
unfolding spaced each command_put
spaced_put f [] h = rw (append-nil f)
spaced_put f (v ∷ rest) h = rw (spaced_put (decimal v) rest h) (simp append_assoc)

pub tick_put : (commands : List ℤ) (register : ℕ) → tick_line commands register ≡ (0x4F ∷ []) ++ each command_put commands ++ (0x20 ∷ hex2 register ++ 0x0A ∷ [])
unfolding tick_line ended
tick_put commands register = rw (spaced_put (0x4F ∷ []) commands (hex2 register)) (simp append_assoc)
