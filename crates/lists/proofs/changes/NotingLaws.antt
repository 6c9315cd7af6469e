-- The notes of a list: one more of them, those of a stretch of slots, and all.
-- Assumes nothing.
use mathlib.Core.Path.{◌≡◌, refl, sym, ap, ◌∙◌}
use mathlib.Core.Bool.{Bool, true, false, not, ◌&&◌}
use mathlib.Core.List.{List, [], ◌∷◌, ◌++◌, flat_map}
use Prim.Native.Nat.{ℕ, zero, suc, ◌+◌, ◌-◌, ◌<◌, ◌≤◌}
use native.Mathlib.Nat.{add-zero, add_assoc, sub_self}
use native.Mathlib.Omega.{arith}
use lib.ListN.{length, set, length-set, length-append}
use lib.Seq.{sets, set_comm}
use Rattle.octets.proofs.little.Parts.{sets_append}
use Rattle.numbers.specs.Choice.{first}
use Rattle.numbers.specs.Order.{below}
use Rattle.entries.specs.Judge.{held}
use Rattle.image.specs.Reading.{configuration_in}
use Rattle.sending.specs.Sending.{slots_from, stretch, picked, differs, grows, rises}
use Rattle.sending.proofs.Picked.{picked_append}
use Rattle.lists.specs.Changes.{place_of}
use Rattle.lists.specs.declared.changes.types.Noted.{Noted}
use Rattle.lists.specs.Noting.{record_from, Put, Once, State, Room, Further, joined, laid}

module _ {place size : ℕ} {up : Bool} {notes : List ℕ} {n : Noted} where
  pub put_before : up ≡ true → Put place size up notes n (set notes (n.low - 1) place) (record { low = n.low - 1; high = n.high; long = n.long + size })
  unfolding first
  put_before e = rw e (record { stored = refl; low = refl; high = refl; long = refl })

  pub put_behind : up ≡ false → Put place size up notes n (set notes n.high place) (record { low = n.low; high = n.high + 1; long = n.long + size })
  unfolding first
  put_behind e = rw e (record { stored = refl; low = refl; high = refl; long = refl })

-- ---- what one note more changes

-- a store before others may come first
pub set_before : (vs l : List ℕ) (i j p : ℕ) → i < j → set (sets l j vs) i p ≡ sets (set l i p) j vs
set_before [] l i j p h = refl
set_before (v ∷ vs) l i j p h =
    set_before vs (set l j v) i (suc j) p (omega arith)
    ∙ ap (λ (m : List ℕ). sets m (suc j) vs) (set_comm l j i v p (λ e. absurd (not_same e)))
  where
    not_same : j ≡ i → ⊥
    not_same e = let z : ◌≡◌ {A = ℕ} 0 1 = omega (arith, e) in omega arith

one_longer : (f : ℕ → List ℕ) (ps : List ℕ) (p : ℕ) → length (flat_map f (ps ++ p ∷ [])) ≡ length (flat_map f ps) + length (f p)
unfolding flat_map
one_longer f [] p = let l = length-append (f p) [] in omega arith
one_longer f (q ∷ ps) p =
    let more = one_longer f ps p in
    let l = length-append (f q) (flat_map f (ps ++ p ∷ [])) in
    let m = length-append (f q) (flat_map f ps) in
    omega arith

module _ {wanted notes₀ : List ℕ} {place size : ℕ} {notes : List ℕ} {n : Noted} {notes' : List ℕ} {n' : Noted}
    (long : size ≡ length (record_from wanted place)) (some : 0 < n.low) where
  pub put_state : (up : Bool) → Put place size up notes n notes' n' → (ups : ℕ) (ps : List ℕ) → State wanted notes₀ ups ps notes n
      → State wanted notes₀ (ups + first up 1 0) (joined true up place ps) notes' n'
  unfolding first joined flat_map
  put_state true p ups ps s =
      let next : suc (n.low - 1) ≡ n.low = omega arith in
      let low = p.low in
      let high = p.high in
      let more = p.long in
      record {
        middle = omega (arith, s.middle);
        stored =
            p.stored ∙ ap (λ (l : List ℕ). set l (n.low - 1) place) s.stored ∙ set_before ps notes₀ (n.low - 1) n.low place (omega arith)
            ∙ ap (λ (k : ℕ). sets (set notes₀ (n.low - 1) place) k ps) (sym next) ∙ ap (λ (k : ℕ). sets notes₀ k (place ∷ ps)) (sym low);
        high = omega (arith, s.high);
        long = omega (arith, s.long, length-append (record_from wanted place) (flat_map (record_from wanted) ps));
      }
  put_state false p ups ps s =
      let low = p.low in
      let high = p.high in
      let more = p.long in
      record {
        middle = omega (arith, s.middle);
        stored =
            p.stored ∙ rw (s.stored, s.high) (sym (sets_append ps (place ∷ []) notes₀ n.low)) ∙ ap (λ (k : ℕ). sets notes₀ k (ps ++ place ∷ [])) (sym low);
        high = omega (arith, s.high, length-append ps (place ∷ []));
        long = omega (arith, s.long, one_longer (record_from wanted) ps place);
      }

put_room : {place size : ℕ} (up : Bool) {notes notes' : List ℕ} {n n' : Noted} → Put place size up notes n notes' n' → size ≤ 11 → (more : ℕ) → Room (suc more) notes n → Room more notes' n'
unfolding first
put_room {place} true {notes} {notes'} {n} p h more r =
    let long = ap length p.stored ∙ length-set notes (n.low - 1) place in
    let sorted = r.sorted in
    let before = r.before in
    let behind = r.behind in
    let short = r.short in
    record {
      sorted = omega (arith, p.low, p.high);
      before = omega (arith, p.low);
      behind = omega (arith, p.high);
      short = omega (arith, p.long);
    }
put_room {place} false {notes} {notes'} {n} p h more r =
    let long = ap length p.stored ∙ length-set notes n.high place in
    let sorted = r.sorted in
    let before = r.before in
    let behind = r.behind in
    let short = r.short in
    record {
      sorted = omega (arith, p.low, p.high);
      before = omega (arith, p.low);
      behind = omega (arith, p.high);
      short = omega (arith, p.long);
    }

put_long : {place size : ℕ} {up : Bool} {notes notes' : List ℕ} {n n' : Noted} → Put place size up notes n notes' n' → length notes' ≡ length notes
put_long {notes = notes} p = ap length p.stored ∙ length-set notes _ _

pub fewer : {more less : ℕ} {notes : List ℕ} {n : Noted} → less ≤ more → Room more notes n → Room less notes n
fewer h r =
    let before = r.before in
    let behind = r.behind in
    let short = r.short in
    record { sorted = r.sorted; before = omega arith; behind = omega arith; short = omega arith }

-- ---- one slot more

laid_snoc : (a b xs : List ℕ) (s : ℕ) (ps : List ℕ) → laid a b (xs ++ s ∷ []) ps ≡ joined (differs a b s) (below (held a s) (held b s)) (place_of s) (laid a b xs ps)
unfolding laid
laid_snoc a b [] s ps = refl
laid_snoc a b (x ∷ xs) s ps = laid_snoc a b xs s (joined (differs a b x) (below (held a x) (held b x)) (place_of x) ps)

more_picked : (test : ℕ → Bool) (xs : List ℕ) (s : ℕ) {t : Bool} → test s ≡ t → length (picked test (xs ++ s ∷ [])) ≡ length (picked test xs) + first t 1 0
unfolding picked first
more_picked test xs s {t} e =
    ap length (picked_append test xs (s ∷ [])) ∙ length-append (picked test xs) (first (test s) (s ∷ []) []) ∙ ap (λ (k : ℕ). length (picked test xs) + k) (rw e (go t))
  where
    go : (u : Bool) → length (first u (s ∷ []) []) ≡ first u 1 0
    go true = refl
    go false = refl

-- ---- some slots more

-- the notes after one slot more, of which `t` says whether its words are the same
abbrev Onward : List ℕ → List ℕ → List ℕ → ℕ → Bool → Bool → List ℕ → ℕ → List ℕ → List ℕ → Noted → Type 0
Onward current wanted slots s t up notes₀ ups ps notes n =
    State wanted notes₀ (ups + length (picked (rises (configuration_in current) (configuration_in wanted)) slots) + first (not t && up) 1 0)
    (joined (not t) up (place_of s) (laid (configuration_in current) (configuration_in wanted) slots ps)) notes n

module _ (current wanted : List ℕ) where
  pub further_none : {notes : List ℕ} {n : Noted} → Further current wanted [] notes n notes n
  unfolding picked laid
  further_none = record { states = λ notes₀ ups ps s. rw (add-zero ups) s; length_kept = refl; room = λ more r. fewer (omega arith) r }

  module _ (slots : List ℕ) (s : ℕ) {up : Bool} (u : below (held (configuration_in current) s) (held (configuration_in wanted) s) ≡ up)
      {notes notes' : List ℕ} {n n' : Noted} (f : Further current wanted slots notes n notes' n') where
    further_by : (t : Bool) → differs (configuration_in current) (configuration_in wanted) s ≡ not t → {notes'' : List ℕ} {n'' : Noted}
        → ((notes₀ : List ℕ) (ups : ℕ) (ps : List ℕ) → State wanted notes₀ ups ps notes n → Onward current wanted slots s t up notes₀ ups ps notes'' n'')
        → length notes'' ≡ length notes' → ((more : ℕ) → Room (suc more) notes' n' → Room more notes'' n'')
        → Further current wanted (slots ++ s ∷ []) notes n notes'' n''
    unfolding rises grows
    further_by t d st l r =
        let rising : rises (configuration_in current) (configuration_in wanted) s ≡ (not t && up) = rw (d, u) in
        let picks = more_picked (rises (configuration_in current) (configuration_in wanted)) slots s rising in
        record {
          states = λ notes₀ ups ps was.
              rw (picks, ← add_assoc ups (length (picked (rises (configuration_in current) (configuration_in wanted)) slots)) (first (not t && up) 1 0), laid_snoc (configuration_in current) (configuration_in wanted) slots s ps, d, u)
              (st notes₀ ups ps was);
          length_kept = l ∙ f.length_kept;
          room = λ more q. r more (f.room (suc more) (fewer (omega (arith, length-append slots (s ∷ []))) q));
        }

    pub further_once : (t : Bool) → differs (configuration_in current) (configuration_in wanted) s ≡ not t → {size : ℕ}
        → size ≡ length (record_from wanted (place_of s)) → size ≤ 11 → Room 1 notes' n' → {notes'' : List ℕ} {n'' : Noted} → Once t up (place_of s) size notes' n' notes'' n''
        → Further current wanted (slots ++ s ∷ []) notes n notes'' n''
    unfolding Once joined first
    further_once true d long small free o =
        further_by true d (λ notes₀ ups ps was. rw (add-zero, o.0, o.1) (f.states notes₀ ups ps was)) (ap length o.0) (λ more q. rw (o.0, o.1) (fewer (omega arith) q))
    further_once false d long small free o =
        further_by false d (λ notes₀ ups ps was. put_state long (omega (arith, free.before)) up o _ _ (f.states notes₀ ups ps was)) (put_long o) (put_room up o small)

-- ---- a stretch of slots

slots_snoc : (from n : ℕ) → slots_from from (suc n) ≡ slots_from from n ++ (from + n) ∷ []
unfolding slots_from
slots_snoc from zero = ap (λ (k : ℕ). k ∷ []) (sym (add-zero from))
slots_snoc from (suc n) = ap (λ (l : List ℕ). from ∷ l) (slots_snoc (suc from) n ∙ ap (λ (k : ℕ). slots_from (suc from) n ++ k ∷ []) (omega arith))

pub stretch_next : (from slot : ℕ) → from ≤ slot → stretch from (slot + 1) ≡ stretch from slot ++ slot ∷ []
unfolding stretch
stretch_next from slot h =
    let more : slot + 1 - from ≡ suc (slot - from) = omega arith in
    let here : from + (slot - from) ≡ slot = omega arith in
    ap (slots_from from) more ∙ slots_snoc from (slot - from) ∙ ap (λ (k : ℕ). slots_from from (slot - from) ++ k ∷ []) here

pub stretch_none : (from : ℕ) → stretch from from ≡ []
unfolding stretch slots_from
stretch_none from = ap (slots_from from) (sub_self from)

slots_length : (from n : ℕ) → length (slots_from from n) ≡ n
unfolding slots_from
slots_length from zero = refl
slots_length from (suc n) = ap suc (slots_length (suc from) n)

pub stretch_length : (from to : ℕ) → length (stretch from to) ≡ to - from
unfolding stretch
stretch_length from to = slots_length from (to - from)
