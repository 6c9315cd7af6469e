-- What an accepted write tells: of the frame, of its slot, and of the word.
-- Assumes nothing.
use mathlib.Core.Path.{◌≡◌, refl, sym, ap, ◌∙◌}
use mathlib.Core.Bool.{Bool, true, false, not}
use mathlib.Core.List.{List}
use Prim.Native.Nat.{ℕ, ◌<◌}
use native.Mathlib.Omega.{arith}
use lib.Dec.{ltb}
use lib.ListN.{length, get_or}
use borrow.Author.Tests.{ltb-true, ltb-false, not-false}
use Rattle.numbers.specs.Choice.{first}
use Rattle.dictionary.specs.Names.{find, sought, writable}
use Rattle.dictionary.proofs.naming.Sought.{sought_at}
use Rattle.std.specs.Prelude.{Result, Ok, Err, ⊤, Option, Some, None}
use Rattle.dictionary.specs.declared.types.Named.{Named}
use Rattle.dictionary.specs.declared.types.Named.TheVariants.{Count, At}
use Rattle.dictionary.specs.declared.types.Missing.{Missing}
use Rattle.entries.specs.Judge.{judged}
use Rattle.entries.specs.declared.types.Fault.{Fault}
use Rattle.sdo.specs.Answers.{size_of, reading, stored, unclear, offered, refused, length_of, writing, obeyed, silent, answer}
use Rattle.sdo.specs.Frames.{command_of, index_in, sub_in, data_in}
use Rattle.sdo.specs.declared.types.Abort.{Abort}
use Rattle.sdo.specs.declared.types.Done.TheVariants.{Value, Written}
use Rattle.sdo.specs.declared.types.Command.{Command}
use Rattle.sdo.specs.declared.types.Command.TheVariants.{Read, Write}
use Rattle.sdo.proofs.AnswerLaws.{heard}
use Rattle.std.proofs.lemmas.Option.{none-some}
use Rattle.sdo.specs.declared.types.Done.{Done}

pub record Accepted (words frame : List ℕ) (slot word : ℕ) : Type 0 where
  pub eight : length frame ≡ 8
  pub found : find (index_in frame) (sub_in frame) ≡ Ok (At slot)
  pub below : slot < writable
  pub holds : word ≡ data_in (size_of slot) frame
  pub clear : unclear slot word ≡ false
  pub good : judged words slot word ≡ Ok tt

module _ (words frame : List ℕ) (room slot word : ℕ) where
  no_abort : (a : Abort) → Err a ≡ Ok (Written slot word) → ⊥
  no_abort a e = let z : ◌≡◌ {A = ℕ} 0 1 = cc in omega arith

  no_value : (v n : ℕ) → ◌≡◌ {A = Result Done Abort} (Ok (Value v n)) (Ok (Written slot word)) → ⊥
  no_value v n e = let z : ◌≡◌ {A = ℕ} 0 1 = cc in omega arith

  -- what stands before the write in a table did not apply
  spoken : (b : Bool) (rest : Result Done Abort) → first b None (Some rest) ≡ Some (Ok (Written slot word)) → rest ≡ Ok (Written slot word)
  unfolding first
  spoken true rest e = absurd (none-some _ e)
  spoken false rest e = cc

  passed : (b : Bool) (a : Abort) (rest : Result Done Abort) → first b (Err a) rest ≡ Ok (Written slot word) → (b ≡ false) × (rest ≡ Ok (Written slot word))
  unfolding first
  passed true a rest e = absurd (no_abort a e)
  passed false a rest e = (refl, e)

  -- only a good verdict stores
  only_good : (s w : ℕ) (v : Result ⊤ Fault) → stored s w v ≡ Ok (Written slot word) → (v ≡ Ok tt) × (s ≡ slot) × (w ≡ word)
  unfolding stored
  only_good s w (Ok x) e = (refl, cc, cc)
  only_good s w (Err f) e = absurd (no_abort _ e)

  module _ (eight : length frame ≡ 8) where
    -- rows 5 to 9
    by_offer : (s size : ℕ) → find (index_in frame) (sub_in frame) ≡ Ok (At s)
        → offered words s size (data_in size frame) ≡ Ok (Written slot word) → Accepted words frame slot word
    unfolding offered
    by_offer s size f e =
        let own = passed (not (ltb s writable)) _ _ e in
        let long = passed (ltb (size_of s) size) _ _ own.1 in
        let short = passed (ltb size (size_of s)) _ _ long.1 in
        let clear = passed (unclear s (data_in size frame)) _ _ short.1 in
        let kept = only_good s (data_in size frame) (judged words s (data_in size frame)) clear.1 in
        let l : s < writable = ltb-true s writable (not-false (ltb s writable) own.0) in
        let a = ltb-false (size_of s) size long.0 in
        let b = ltb-false size (size_of s) short.0 in
        let same : s ≡ slot = kept.1 in
        let data_is : data_in size frame ≡ word = kept.2 in
        let own_size : size_of s ≡ size = omega arith in
        record {
          eight = eight;
          found = f ∙ ap (λ (n : ℕ). Ok (At n)) same;
          below = rw same at l;
          holds = sym data_is ∙ ap (λ (n : ℕ). data_in n frame) (sym (rw same at own_size));
          clear = rw (same, data_is) at clear.0;
          good = ap (λ (w : ℕ). judged words slot w) (sym data_is) ∙ ap (λ (s : ℕ). judged words s (data_in size frame)) (sym same) ∙ kept.0;
        }

    -- rows 3 and 4
    by_name : (size : Option ℕ) (f : Result Named Missing) → sought words (index_in frame) (sub_in frame) ≡ f → writing words frame size f ≡ Ok (Written slot word) → Accepted words frame slot word
    unfolding writing refused
    by_name size (Err m) f e = absurd (no_abort _ e)
    by_name size (Ok (Count n)) f e = absurd (no_abort _ e)
    by_name size (Ok (At s)) f e = by_offer s (length_of size (size_of s)) (sought_at words (index_in frame) (sub_in frame) s f) e

    no_read : (f : Result Named Missing) → reading words f ≡ Ok (Written slot word) → ⊥
    unfolding reading
    no_read (Err m) e = no_abort _ e
    no_read (Ok (Count n)) e = no_value _ _ e
    no_read (Ok (At s)) e = no_value _ _ e

    -- row 2
    by_command : (c : Result Command Abort) → obeyed words frame c ≡ Ok (Written slot word) → Accepted words frame slot word
    unfolding obeyed
    by_command (Ok Read) e = absurd (no_read (sought words (index_in frame) (sub_in frame)) e)
    by_command (Ok (Write size)) e = by_name size (sought words (index_in frame) (sub_in frame)) refl e
    by_command (Err a) e = absurd (no_abort _ e)

  pub accepted : answer words frame room ≡ Some (Ok (Written slot word)) → Accepted words frame slot word
  unfolding answer
  accepted e =
      by_command (heard words frame room (Ok (Written slot word)) (sym e)).0
      (command_of (get_or frame 0 0)) (spoken (silent frame room) (obeyed words frame (command_of (get_or frame 0 0))) e)
