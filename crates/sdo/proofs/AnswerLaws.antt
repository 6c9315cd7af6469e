-- What the parts of an answer come to.
-- Assumes nothing.
use mathlib.Core.Path.{◌≡◌, refl, sym, ap, ◌∙◌}
use mathlib.Core.Bool.{Bool, true, false, ◌&&◌}
use mathlib.Core.List.{List}
use Prim.Native.Nat.{ℕ, ◌<◌, ◌≤◌}
use native.Mathlib.Omega.{arith}
use lib.Dec.{eqb, ltb}
use lib.ListN.{length, get_or}
use borrow.Author.Tests.{lt-ltb, le-ltb, eq-eqb, ne_eqb, eqb-true, eqb-false, ltb-true, ltb-false}
use Rattle.numbers.specs.Choice.{first}
use Rattle.dictionary.specs.Names.{slot_found, sought, words, writable}
use Rattle.dictionary.specs.Unit.{unit_size}
use Rattle.roles.specs.Values.{range_of}
use Rattle.roles.proofs.widths.WidthLaws.{at_least_one, at_most_four, never_three}
use Rattle.std.specs.Prelude.{Option, Some, None, Result, Ok, Err, is_ok, ⊤}
use Rattle.dictionary.specs.declared.types.Named.{Named}
use Rattle.dictionary.specs.declared.types.Named.TheVariants.{At}
use Rattle.dictionary.specs.declared.types.Missing.{Missing}
use Rattle.dictionary.proofs.naming.Sought.{sought_below}
use Rattle.entries.specs.Judge.{judged}
use Rattle.sdo.specs.Answers.{of_missing, of_fault, size_of, reading, stored, unclear, offered, refused, length_of, writing, obeyed, silent, answer}
use Rattle.sdo.specs.Frames.{command_of, index_in, sub_in, data_in}
use Rattle.sdo.specs.declared.types.Abort.{Abort}
use Rattle.sdo.specs.declared.types.Abort.TheVariants as abort
use Rattle.sdo.specs.declared.types.Command.{Command}
use Rattle.sdo.specs.declared.types.Command.TheVariants.{Read, Write}
use Rattle.sdo.specs.declared.types.Done.{Done}
use Rattle.sdo.specs.declared.types.Done.TheVariants.{Written}
use Rattle.std.specs.Option.{unwrap_or}
use Rattle.std.proofs.lemmas.Option.{none-some}
use Rattle.entries.specs.declared.types.Fault.{Fault}
use Rattle.sdo.proofs.Clearing.{soon_enough}

-- ---- rows 5 to 9, for a slot

-- as many bytes as a type can have
pub own_bytes : (slot : ℕ) {own : ℕ} → own ≡ size_of slot → (1 ≤ own) × (own ≤ 4) × (own ≡ 3 → ⊥)
unfolding size_of
own_bytes slot e = let kind = (range_of slot).kind in rw e (at_least_one kind, at_most_four kind, never_three kind)

-- a write's length, as the library takes it
pub length_is : {n : ℕ} (size : Option ℕ) (own : ℕ) → n ≡ unwrap_or size own → n ≡ length_of size own
unfolding length_of
length_is (Some k) own e = e
length_is None own e = e

module _ (words frame : List ℕ) (size : Option ℕ) (slot : ℕ) where
  pub read_only : writable ≤ slot → Err abort.ReadOnly ≡ writing words frame size (Ok (At slot))
  unfolding writing offered first
  read_only h = simp (le-ltb slot writable h)

  module _ (h : slot < writable) (own n : ℕ) (e : own ≡ size_of slot) (told : n ≡ length_of size own) where
    pub too_long : own < n → Err abort.TooLong ≡ writing words frame size (Ok (At slot))
    unfolding writing offered first
    too_long l = simp (lt-ltb slot writable h, ← e, ← told, lt-ltb own n l)

    pub too_short : n < own → Err abort.TooShort ≡ writing words frame size (Ok (At slot))
    unfolding writing offered first
    too_short l = simp (lt-ltb slot writable h, ← e, ← told, le-ltb own n (omega arith), lt-ltb n own l)

    pub in_full : n ≡ own → (word : ℕ) → word ≡ data_in own frame
        → first (unclear slot word) (Err abort.NotClear) (stored slot word (judged words slot word)) ≡ writing words frame size (Ok (At slot))
    unfolding writing offered first
    in_full same word d = simp (lt-ltb slot writable h, ← e, ← told, same, le-ltb own own (omega arith), ← d)

    pub fitting : n ≡ own → (word : ℕ) → word ≡ data_in own frame → (v : Result ⊤ Fault) → v ≡ judged words slot word
        → first (is_ok v && unclear slot word) (Err abort.NotClear) (stored slot word v) ≡ writing words frame size (Ok (At slot))
    fitting same word d v judge = soon_enough words slot word v judge ∙ in_full same word d

    -- the judgement, and then 1003h:0
    module _ (same : n ≡ own) (word : ℕ) (d : word ≡ data_in own frame) where
      pub faulty : (f : Fault) → judged words slot word ≡ Err f → Err (of_fault f) ≡ writing words frame size (Ok (At slot))
      unfolding first stored
      faulty f e = fitting same word d (Err f) (sym e)

      pub not_clear : judged words slot word ≡ Ok tt → unclear slot word ≡ true → Err abort.NotClear ≡ writing words frame size (Ok (At slot))
      unfolding first
      not_clear e u = rw u at (fitting same word d (Ok tt) (sym e))

      pub written : judged words slot word ≡ Ok tt → unclear slot word ≡ false → Ok (Written slot word) ≡ writing words frame size (Ok (At slot))
      unfolding first stored
      written e u = rw u at (fitting same word d (Ok tt) (sym e))

-- ---- a name that is found stands in the unit

pub in_unit : {named : Named} {slot : ℕ} → slot_found (Ok named) < unit_size → named ≡ At slot → slot < unit_size
in_unit h e = rw e at h

pub found_in_unit : (unit : List ℕ) (index sub : ℕ) (named : Named) → Ok named ≡ sought unit index sub → slot_found (Ok named) < unit_size
unfolding unit_size words
found_in_unit unit index sub named e = let h = sought_below unit index sub (Ok named) e in omega arith

-- ---- the command, and what the name stands for

module _ (words frame : List ℕ) (index sub : ℕ) (i : index ≡ index_in frame) (s : sub ≡ sub_in frame) where
  named_is : (f : Result Named Missing) → f ≡ sought words index sub → f ≡ sought words (index_in frame) (sub_in frame)
  named_is f at = at ∙ ap (λ (x : ℕ). sought words x sub) i ∙ ap (sought words (index_in frame)) s

  module _ (c : Command) (commanded : Ok c ≡ command_of (get_or frame 0 0)) where
    pub no_name : (m : Missing) → Err m ≡ sought words index sub → Err (of_missing m) ≡ obeyed words frame (command_of (get_or frame 0 0))
    unfolding obeyed reading writing refused
    no_name m at = rw (← commanded) (go c) where
      go : (k : Command) → Err (of_missing m) ≡ obeyed words frame (Ok k)
      go Read = rw (← named_is (Err m) at)
      go (Write size) = rw (← named_is (Err m) at)

    module _ (named : Named) (at : Ok named ≡ sought words index sub) where
      pub a_read : c ≡ Read → reading words (Ok named) ≡ obeyed words frame (command_of (get_or frame 0 0))
      unfolding obeyed
      a_read q = rw (← commanded, q, ← named_is (Ok named) at)

      pub a_write : (size : Option ℕ) → c ≡ Write size → writing words frame size (Ok named) ≡ obeyed words frame (command_of (get_or frame 0 0))
      unfolding obeyed
      a_write size q = rw (← commanded, q, ← named_is (Ok named) at)

some_none : {A : Type 0} (x : A) → Some x ≡ None → ⊥
some_none x e = none-some x (sym e)

-- ---- row 1

module _ (frame : List ℕ) (room : ℕ) where
  pub not_eight : (length frame ≡ 8 → ⊥) → silent frame room ≡ true
  unfolding silent
  not_eight n = simp (ne_eqb (length frame) 8 n)

  module _ (l : length frame ≡ 8) where
    pub no_room : room < 8 → silent frame room ≡ true
    unfolding silent
    no_room h = simp (eq-eqb (length frame) 8 l, lt-ltb room 8 h)

    module _ (h : 8 ≤ room) where
      pub an_abort : get_or frame 0 0 ≡ 0x80 → silent frame room ≡ true
      unfolding silent
      an_abort a = simp (eq-eqb (length frame) 8 l, le-ltb room 8 h, eq-eqb (get_or frame 0 0) 0x80 a)

      pub spoken : (get_or frame 0 0 ≡ 0x80 → ⊥) → silent frame room ≡ false
      unfolding silent
      spoken n = simp (eq-eqb (length frame) 8 l, le-ltb room 8 h, ne_eqb (get_or frame 0 0) 0x80 n)

  -- whoever is answered sent eight bytes and has room for eight
  pub loud : silent frame room ≡ false → (length frame ≡ 8) × (8 ≤ room)
  loud e = go (eqb (length frame) 8) refl (ltb room 8) refl
    where
      go : (t : Bool) → eqb (length frame) 8 ≡ t → (s : Bool) → ltb room 8 ≡ s → (length frame ≡ 8) × (8 ≤ room)
      go true p false q = (eqb-true (length frame) 8 p, ltb-false room 8 q)
      go true p true q = let z : true ≡ false = sym (no_room (eqb-true (length frame) 8 p) (ltb-true room 8 q)) ∙ e in cc
      go false p s q = let z : true ≡ false = sym (not_eight (eqb-false (length frame) 8 p)) ∙ e in cc

module _ (words frame : List ℕ) (room : ℕ) where
  pub no_answer : silent frame room ≡ true → None ≡ answer words frame room
  unfolding answer first
  no_answer s = rw s

  pub an_answer : silent frame room ≡ false → (d : Result Done Abort) → d ≡ obeyed words frame (command_of (get_or frame 0 0)) → Some d ≡ answer words frame room
  unfolding answer first
  an_answer s d e = rw (s, e)

  pub heard : (d : Result Done Abort) → Some d ≡ answer words frame room → (length frame ≡ 8) × (8 ≤ room)
  heard d e = go (silent frame room) refl
    where
      go : (t : Bool) → silent frame room ≡ t → (length frame ≡ 8) × (8 ≤ room)
      go true s = absurd (some_none d (e ∙ sym (no_answer s)))
      go false s = loud frame room s
