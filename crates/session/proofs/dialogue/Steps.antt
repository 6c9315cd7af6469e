-- The bytes of a piece taken one after the other, as the code does it.
-- Assumes nothing.
use Prim.Native.Nat.{ℕ, suc, ◌+◌, ◌*◌, ◌/◌, ◌<◌, ◌≤◌, min}
use mathlib.Core.Bool.{Bool, true, false}
use mathlib.Core.List.{List, [], ◌∷◌, ◌++◌, append-nil}
use mathlib.Core.Path.{◌≡◌, refl, sym, ap, ◌∙◌}
use native.Mathlib.Omega.{arith}
use native.Mathlib.Nat.{zero-add}
use borrow.Author.Tests.{eq-eqb, ne_eqb, lt-ltb, le-ltb, leb-true, leb-false}
use lib.Dec.{leb}
use lib.ListN.{length, take, drop, set, get_or, length-append, length-take, take-append-drop}
use lib.Seq.{sets, sets-eq, length-sets, take-suc, take_all, length-take-le, drop-length}
use Rattle.numbers.specs.Choice.{first}
use Rattle.printer.specs.Printing.{Printed}
use Rattle.octets.proofs.little.Parts.{sets_append}
use Rattle.terminal.specs.declared.line.Line.{Line}
use Rattle.session.specs.Dialogue.{cut, answered, Kept, kept_of, goes_on, prints, over, after, taken}
use Rattle.session.specs.Byte.{ending, Finished, step, speaks, Taken}
use Rattle.session.proofs.dialogue.Bytes.{after_next, prints_next}

-- ---- one byte

module _ (k : Kept) (b : ℕ) (room : List ℕ) (printed : ℕ) where
  pub ends : {unit' room' : List ℕ} {printed' : ℕ} → b ≡ 0x0A → Finished (ending k) room printed unit' room' printed'
      → Taken k b room printed (record { unit = unit'; line = k.line; held = 0 }) room' printed'
  unfolding step speaks first
  ends e f =
      let t = eq-eqb b 0x0A e in
      record { kept = rw (t, f.left); stored = f.stored ∙ rw t; count = f.count ∙ rw t; short = rw t f.short }

  pub joins : (b ≡ 0x0A → ⊥) → k.held < 65 → Taken k b room printed (record { unit = k.unit; line = set k.line k.held b; held = k.held + 1 }) room printed
  unfolding step speaks first
  joins e h =
      let t = ne_eqb b 0x0A e in
      record { kept = rw (t, lt-ltb k.held 65 h); stored = rw t; count = rw t (omega arith); short = rw t (omega arith) }

  pub passes : (b ≡ 0x0A → ⊥) → 65 ≤ k.held → Taken k b room printed k room printed
  unfolding step speaks first
  passes e h =
      let t = ne_eqb b 0x0A e in
      record { kept = rw (t, le-ltb k.held 65 h); stored = rw t; count = rw t (omega arith); short = rw t (omega arith) }

-- a byte that joins a line, if there is room
pub goes_in : (unit : List ℕ) {line' : Line} (line : Line) (b : ℕ) (room : List ℕ) (printed : ℕ) → (b ≡ 0x0A → ⊥)
    → (line.held < 65 → line' ≡ record { bytes = set line.bytes line.held b; held = line.held + 1 }) → (65 ≤ line.held → line' ≡ line)
    → Taken (kept_of unit line) b room printed (kept_of unit line') room printed
goes_in unit {line'} line b room printed e kept past = by (leb 65 line.held) refl where
  by : (t : Bool) → leb 65 line.held ≡ t → Taken (kept_of unit line) b room printed (kept_of unit line') room printed
  by true h = let full = leb-true 65 line.held h in rw (past full) (passes (kept_of unit line) b room printed e full)
  by false h = let some = leb-false 65 line.held h in rw (kept some) (joins (kept_of unit line) b room printed e some)

-- ---- the loop

-- after so many bytes of what is taken
pub record Hearing (k : Kept) (piece room₀ : List ℕ) (i : ℕ) (k' : Kept) (room : List ℕ) (printed : ℕ) : Type 0 where
  pub wide : length k.line ≡ 65
  pub within : i ≤ length piece
  pub kept : k' ≡ after k (take i piece)
  pub stored : room ≡ sets room₀ 0 (prints k (take i piece))
  pub count : printed ≡ length (prints k (take i piece))
  pub few : printed ≤ 64 * i

-- what is stored where it stands changes nothing
sets_own : (l : List ℕ) (n : ℕ) → sets l 0 (take n l) ≡ l
sets_own l n = sets-eq (take n l) l 0 (omega (arith, zero-add (length (take n l)), length-take n l)) ∙ rw (zero-add (length (take n l))) (by (leb n (length l)) refl) where
  by : (t : Bool) → leb n (length l) ≡ t → take n l ++ drop (length (take n l)) l ≡ l
  by true e = rw (length-take-le n l (leb-true n (length l) e)) (take-append-drop n l)
  by false e = let h = leb-false n (length l) e in rw (take_all n l (omega arith), drop-length l) (append-nil l)

-- what is taken is in the piece, and has 64 bytes of room for each byte
pub share_most : (piece room : List ℕ) → (length (taken piece room) ≤ length piece) × (64 * length (taken piece room) ≤ length room)
unfolding taken
share_most piece room = let n = length-take (length room / 64) piece in (omega arith, omega arith)

pub begun : (k : Kept) (piece room₀ : List ℕ) {held : ℕ} → length k.line ≡ 65 → held ≡ min k.held 65 → Hearing k piece room₀ 0 (record { unit = k.unit; line = k.line; held = held }) room₀ 0
unfolding after prints goes_on cut answered over
begun k piece room₀ {held} wide e = record {
  wide = wide;
  within = omega arith;
  kept =
      let n : min (length (take k.held k.line)) 65 ≡ held = omega (arith, length-take k.held k.line) in
      rw (sets_own k.line k.held, n);
  stored = refl;
  count = refl;
  few = omega arith;
}

module _ {k : Kept} {piece room₀ : List ℕ} {i : ℕ} {k' : Kept} {room : List ℕ} {printed : ℕ} (a : Hearing k piece room₀ i k' room printed) where
  pub room_long : length room ≡ length room₀
  room_long = ap length a.stored ∙ length-sets room₀ 0 (prints k (take i piece))

  pub onward : {b : ℕ} {k'' : Kept} {room'' : List ℕ} {printed'' : ℕ} → i < length piece → b ≡ get_or piece i 0 → Taken k' b room printed k'' room'' printed''
      → Hearing k piece room₀ (i + 1) k'' room'' printed''
  onward {b} n e t =
      let one : i + 1 ≡ suc i = omega arith in
      let p = take i piece in
      let more : take (i + 1) piece ≡ p ++ b ∷ [] = rw (one, e) (take-suc piece i 0 n) in
      let now = a.kept in
      let said : speaks k' b ≡ speaks (after k p) b = ap (λ (x : Kept). speaks x b) now in
      let whole : prints k (take (i + 1) piece) ≡ prints k p ++ speaks k' b = ap (prints k) more ∙ prints_next k a.wide p b ∙ rw said in
      record {
        wide = a.wide;
        within = omega arith;
        kept = t.kept ∙ ap (λ (x : Kept). step x b) now ∙ sym (ap (after k) more ∙ after_next k a.wide p b);
        stored = t.stored ∙ rw (a.stored, a.count, whole, sets_append (prints k p) (speaks k' b) room₀ 0, zero-add (length (prints k p)));
        count = t.count ∙ rw (a.count, whole) (omega (arith, length-append (prints k p) (speaks k' b)));
        few = let c = t.count in let s = t.short in let f = a.few in omega arith;
      }

  pub done : 64 * length piece ≤ length room₀ → length piece ≤ i → Printed (prints k piece) room₀ room printed × (k' ≡ after k piece)
  done fits n =
      let all : take i piece ≡ piece = take_all i piece n in
      let c = rw all at a.count in
      let few = a.few in
      let within = a.within in
      let s = rw all at a.stored in (
        record {
          counted = c;
          bytes = s ∙ sets-eq (prints k piece) room₀ 0 (omega (arith, zero-add (length (prints k piece)))) ∙ rw (zero-add (length (prints k piece)));
        },
        rw all at a.kept,
      )
