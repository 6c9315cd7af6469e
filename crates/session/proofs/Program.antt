-- What the program writes.
-- Assumes nothing.
use Prim.Native.Nat.{ℕ, ◌*◌, ◌/◌, ◌≤◌}
use mathlib.Core.Bool.{Bool, true}
use mathlib.Core.List.{List, [], ◌∷◌, ◌++◌, flat_map, append_assoc, append-nil}
use mathlib.Core.Path.{◌≡◌, refl, sym, ap, ◌∙◌}
use native.Mathlib.Omega.{arith}
use lib.ListN.{length, take}
use lib.Seq.{take_all}
use Rattle.printer.specs.Answering.{Said}
use Rattle.roles.specs.Values.{at_start}
use Rattle.session.specs.Dialogue.{Kept, taken, Hears, session}
use Rattle.session.specs.Pieces.{fed, whole, InAnyPieces}
use Rattle.session.specs.Program.{Turn, Turned, Turns, Looped, AllTaken, PrintsTheSession}
use Rattle.session.proofs.dialogue.Pieces.{in_any_pieces}
use Rattle.printer.proofs.Answers.{begins}

-- ---- the program's loop

-- a turn that read something
pub a_turn : {k k' : Kept} {piece room room' : List ℕ} {printed took : ℕ} → length piece ≤ 256 → length room ≡ 256 * 64 → Hears k piece room k' room' printed took
    → Turn k piece k' (take printed room')
a_turn {piece = piece} {room} {room'} {printed} {took} read lent heard =
    record { room = room; room' = room'; printed = printed; took = took; read = read; lent = lent; heard = heard; wrote = refl }

pub answered : {k k' : Kept} {piece room room' : List ℕ} {printed took : ℕ} → length piece ≤ 256 → length room ≡ 256 * 64 → Hears k piece room k' room' printed took → Turned k k' true
answered {piece = piece} {room' = room'} {printed} read lent heard = Turned.something piece (take printed room') (a_turn read lent heard)

pub begun : {k : Kept} → Looped k k
begun = record { input = []; written = []; turns = Turns.none }

pub turned : {k k' k'' : Kept} {more : Bool} → Looped k k' → Turned k' k'' more → Looped k k''
turned l Turned.nothing = l
turned l (Turned.something piece written t) = record { input = l.input ++ piece; written = l.written ++ written; turns = Turns.then l.turns t }

-- ---- what it writes

-- the room is enough for the whole piece
enough : {k k' : Kept} {piece written : List ℕ} (t : Turn k piece k' written) → taken piece t.room ≡ piece
unfolding taken
enough {piece = piece} t = let fits = t.read in let lent = t.lent in take_all (length t.room / 64) piece (omega arith)

pub all_taken : AllTaken
all_taken k k' piece written t = t.heard.count ∙ ap length (enough t)

-- the pieces that were read, whatever comes behind them
record Pieces (k : Kept) (input written : List ℕ) (k' : Kept) : Type 0 where
  pieces : List (List ℕ)
  read : (rest : List (List ℕ)) → whole (pieces ++ rest) ≡ input ++ whole rest
  wrote : (rest : List (List ℕ)) → (fed k (pieces ++ rest)).printed ≡ written ++ (fed k' rest).printed

one_more : {k k' k'' : Kept} {input written piece more : List ℕ} → Pieces k input written k' → Turn k' piece k'' more → Pieces k (input ++ piece) (written ++ more) k''
unfolding fed whole flat_map
one_more {input = input} {written} {piece} p t =
    let h = t.heard in
    record {
      pieces = p.pieces ++ piece ∷ [];
      read = λ rest. rw (append_assoc p.pieces (piece ∷ []) rest, append_assoc input piece (whole rest)) (p.read (piece ∷ rest));
      wrote = λ rest.
          rw (append_assoc p.pieces (piece ∷ []) rest, append_assoc written _ (fed _ rest).printed, t.wrote, begins h.print, h.kept, enough t)
          (p.wrote (piece ∷ rest));
    }

in_pieces : {k k' : Kept} {input written : List ℕ} → Turns k input written k' → Pieces k input written k'
in_pieces Turns.none = record { pieces = []; read = λ rest. refl; wrote = λ rest. refl }
in_pieces (Turns.then before t) = one_more (in_pieces before) t

pub prints_the_session : PrintsTheSession
unfolding InAnyPieces fed whole flat_map
prints_the_session line input written last k long w e =
    let p = in_pieces w in
    ap (λ (l : List ℕ). written ++ l) (e.wrote ∙ begins e.answered.print)
    ∙ sym (p.wrote []) ∙ ap (λ (s : Said). s.printed) (in_any_pieces (p.pieces ++ []) at_start line long)
    ∙ ap (λ (l : List ℕ). (session l at_start).printed) (p.read [] ∙ append-nil input)
