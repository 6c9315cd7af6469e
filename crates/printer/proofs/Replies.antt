-- What the answering functions share: a reply is what the buffer holds, the commands and the register stand in their slots.
-- Assumes nothing.
use Prim.Native.Nat.{ℕ, ◌<◌, ◌+◌, ◌%◌}
use mathlib.Core.List.{List, [], ◌∷◌}
use mathlib.Core.Path.{◌≡◌, refl, sym, subst, ◌∙◌}
use native.Mathlib.Omega.{arith}
use lib.Dec.{lit<}
use lib.IntN.{ℤ}
use lib.ListN.{get_or, replicate}
use Rattle.std.specs.Prelude.{Some, Result, Ok, Err}
use Rattle.numbers.specs.Signed.{signed16}
use Rattle.octets.specs.Little.{bytes}
use Rattle.sdo.specs.Frames.{reply_to, reply, name_in}
use Rattle.sdo.specs.declared.types.Abort.{Abort}
use Rattle.sdo.specs.declared.types.Done.{Done}
use Rattle.sdo.specs.declared.types.Done.TheVariants.{Value, Written}
use Rattle.sdo.specs.Served.{filled}
use Rattle.dictionary.specs.Names.{slot_of}
use Rattle.unit.proofs.Slots.{has, stretch, array, var}
use Rattle.unit.specs.Entry.{whole, byte}
use Rattle.printer.specs.Printing.{Printed, reply_line, tick_line}
use Rattle.printer.specs.Answering.{Said, shown, state_line, Answers}

-- what is printed may be told in another way
pub prints : {l m before after : List ℕ} {n : ℕ} → l ≡ m → Printed l before after n → Printed m before after n
prints {l} {m} {before} {after} {n} e p = subst (λ (x : List ℕ). Printed x before after n) e p

pub told : {s t : Said} {unit before after : List ℕ} {n : ℕ} → t ≡ s → Answers s unit before after n → Answers t unit before after n
told {s} {t} {unit} {before} {after} {n} e p = subst (λ (x : Said). Answers x unit before after n) (sym e) p

-- ---- a buffer of eight bytes after a reply holds the reply and nothing else

pub answered : (frame : List ℕ) (d : Result Done Abort) → reply_line (filled (replicate 8 0) frame (Some d)) ≡ shown frame (Some d)
unfolding shown filled reply_to reply name_in bytes
answered frame (Err a) = refl
answered frame (Ok (Value word size)) = refl
answered frame (Ok (Written slot word)) = refl

-- ---- 7330h:1-4 and 1001h, by their names

commands : (k : ℕ) → k < 4 → {slot : ℕ} → stretch 0x7330 1 4 slot ≡ has 0x7330 → slot_of 0x7330 (k + 1) ≡ slot + k
commands k h e = array 0x7330 e k h

module _ (unit : List ℕ) (a b c d : ℤ) (register : ℕ) {slot place : ℕ} (at : stretch 0x7330 1 4 slot ≡ has 0x7330) (there : stretch 0x1001 0 0 place ≡ has 0x1001) where
  pub state_line_lem :
      a ≡ signed16 (get_or unit slot 0) → b ≡ signed16 (get_or unit (slot + 1) 0) → c ≡ signed16 (get_or unit (slot + 2) 0) → d ≡ signed16 (get_or unit (slot + 3) 0) →
      register ≡ get_or unit place 0 % 0x100 → tick_line (a ∷ b ∷ c ∷ d ∷ []) register ≡ state_line unit
  unfolding state_line whole byte
  state_line_lem ea eb ec ed er =
      let one : slot_of 0x7330 1 ≡ slot = commands 0 (lit< tt) at ∙ omega arith in
      rw (one, commands 1 (lit< tt) at, commands 2 (lit< tt) at, commands 3 (lit< tt) at, var 0x1001 there, ea, eb, ec, ed, er)
