-- What a turn, the loop and the whole program take from a reader and give to a writer.
-- Assumes nothing.
use Rattle.std.proofs.Common.{◌≡◌, ℕ, ◌+◌, ◌-◌, ◌^◌, ◌<◌, ◌≤◌, Bool, true, false, List, [], ◌++◌, length, take, refl, sym, ap, ◌∙◌, subst, append-nil, append_assoc, None, Some, IfSome, Result, Ok, Err, IsOk, OnOk, arith, length-append, length-take}
use Rattle.std.specs.declared.option.Option.{Option}
use Rattle.std.specs.Io.KnownBytes.{Appends, Consumes, IsAtEnd}
use Rattle.std.proofs.KnownBytes.{Appends-nil, Appends-trans, Consumes-nil, Consumes-trans}
use Rattle.roles.specs.Values.{at_start}
use Rattle.session.specs.Dialogue.{Kept, session}
use Rattle.session.specs.Program.{Turn, Turns, End}
use Rattle.session.specs.Carried.{Carried, Heard, Served}
use Rattle.session.proofs.Program.{prints_the_session}

-- ---- one turn

pub nothing_more : {k : Kept} (left left' held : Option (List ℕ)) (n : ℕ) (piece : List ℕ)
    → n ≡ 0 → Consumes left left' (take n piece) → IsAtEnd left' → Heard k left held k false left' held
nothing_more left left' held n piece e took end =
    let none : take n piece ≡ [] = rw e refl in
    record {
      carried = record { input = []; written = []; turns = Turns.none; took = subst (Consumes left left') none took; gave = Appends-nil held };
      some = λ q. absurd (cc);
      ended = λ _. end;
    }

pub a_piece : {k k' : Kept} (left left' held held' : Option (List ℕ)) {piece written : List ℕ}
    → Turn k piece k' written → 0 < length piece → Consumes left left' piece → Appends held held' written → Heard k left held k' true left' held'
a_piece left left' held held' {piece} {written} t some took gave = record {
  carried = record { input = piece; written = written; turns = Turns.then Turns.none t; took = took; gave = gave };
  some = λ _. some;
  ended = λ q. absurd (cc);
}

-- ---- turn after turn

turns_on : {k k' k'' : Kept} {input written more told : List ℕ} → Turns k input written k' → Turns k' more told k'' → Turns k (input ++ more) (written ++ told) k''
turns_on {input = input} {written} s Turns.none = rw (append-nil input, append-nil written) s
turns_on {input = input} {written} s (Turns.then {input = a} {written = b} {piece = c} {more = d} t u) =
    rw (← append_assoc input a c, ← append_assoc written b d) (Turns.then (turns_on s t) u)

pub none_yet : {k : Kept} {left held : Option (List ℕ)} → Carried k left held k left held
none_yet {k} {left} {held} = record { input = []; written = []; turns = Turns.none; took = Consumes-nil left; gave = Appends-nil held }

pub carried_on : {k k' k'' : Kept} {left held left' held' left'' held'' : Option (List ℕ)} {more : Bool}
    → Carried k left held k' left' held' → Heard k' left' held' k'' more left'' held'' → Carried k left held k'' left'' held''
carried_on {left = left} {held} {left'} {held'} {left''} {held''} s h =
    let t = h.carried in
    record {
      input = s.input ++ t.input;
      written = s.written ++ t.written;
      turns = turns_on s.turns t.turns;
      took = Consumes-trans left left' left'' s.input t.input s.took t.took;
      gave = Appends-trans held held' held'' s.written t.written s.gave t.gave;
    }

pub longer : {k k' k'' : Kept} {left held left' held' left'' held'' : Option (List ℕ)} {more : Bool}
    (s : Carried k left held k' left' held') (h : Heard k' left' held' k'' more left'' held'') → length (carried_on s h).input ≡ length s.input + length h.carried.input
unfolding carried_on
longer s h = length-append s.input h.carried.input

-- ---- the whole program

pub whole_session : {unit line last : List ℕ} {k : Kept} (left held left' held' held'' : Option (List ℕ))
    → Served (record { unit = unit; line = line; held = 0 }) left held k left' held' → unit ≡ at_start → length line ≡ 65 → End k last → Appends held' held'' last
    → IfSome left (λ (input : List ℕ). length input < 2 ^ 64 - 1 → Appends held held'' (session input at_start).printed)
whole_session None held left' held' held'' s e long end gave = tt
whole_session (Some xs) held None held' held'' s e long end gave = absurd s.carried.took
whole_session {unit} {line} {last} {k} (Some xs) held (Some ys) held' held'' s e long end gave = λ short.
    let c = s.carried in
    let cut : xs ≡ c.input ++ ys = c.took in
    let few : length c.input < 2 ^ 64 - 1 = omega (arith, ap length cut, length-append c.input ys) in
    let all : xs ≡ c.input = cut ∙ ap (λ (l : List ℕ). c.input ++ l) (s.ended few) ∙ append-nil c.input in
    let turns : Turns (record { unit = at_start; line = line; held = 0 }) c.input c.written k =
    subst (λ (u : List ℕ). Turns (record { unit = u; line = line; held = 0 }) c.input c.written k) e c.turns in
    let told = prints_the_session line c.input c.written last k long turns end in
    subst (λ (l : List ℕ). Appends held held'' (session l at_start).printed) (sym all)
    (subst (Appends held held'') told (Appends-trans held held' held'' c.written last c.gave gave))

-- a fact for when there is no error
pub on_ok : {T E : Type 0} (r : Result T E) (P : Type 0) → (IsOk r → P) → OnOk r P
on_ok (Ok x) P f = f refl
on_ok (Err e) P f = tt

-- a piece that was read has a byte
pub some_read : (n : ℕ) (piece : List ℕ) → (n ≡ 0 → ⊥) → n ≤ length piece → 0 < length (take n piece)
some_read n piece h fits = omega (arith, length-take n piece)
