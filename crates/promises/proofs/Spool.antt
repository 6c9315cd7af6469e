-- The promises of the twin-coil spool product.
-- Assumes nothing.
use Prim.Native.Nat.{ℕ, zero, suc}
use mathlib.Core.Bool.{◌||◌}
use mathlib.Core.List.{List, [], ◌∷◌, ◌++◌}
use mathlib.Core.Logic.{◌⊎◌, inl, inr}
use mathlib.Core.Path.{◌≡◌, refl, sym, ap, ◌∙◌, subst}
use native.Mathlib.Omega.{arith}
use borrow.Author.Tests.{lt-ltb}
use lib.Dec.{lit<}
use lib.IntN.{ℤ, pos, negsuc}
use lib.Signed.{◌≤ℤ◌, ≤ℤ_refl}
use Rattle.numbers.specs.Order.{below}
use Rattle.numbers.proofs.Choices.{chosen}
use Rattle.numbers.proofs.Orders.{below_is_lt}
use Rattle.roles.specs.Values.{at_start}
use Rattle.controller.specs.Tick.{ticked}
use Rattle.firmware.specs.Published.{commands}
use Rattle.spool.specs.Interlock.{coil_1, coil_2, sent_at_start, waits, loses, sent_1, sent_2, interlocked}
use Rattle.spool.specs.Coils.{Coil, one, two, other, of, Above0, At0, Loses, NotBoth}
use Rattle.spool.proofs.Coils.{above_not_0, each_obeys, never_both}
use Rattle.promises.specs.Running.{Event, frame, tick, load, happens, run, MadeOfBytes}
use Rattle.promises.specs.Spool.{Product, started, occurs, works, Occurred, Worked, OnlyThese, CoreAsBefore, OnlyTicksSend, NeverBothAbove, SentOn, SinceStart, CommandsNotBelow0, BothAt0, ChangeOver, AsksOn, WaitsForTheOther, GoesNext}
use Rattle.promises.proofs.Running.{did}
use Rattle.promises.proofs.NotBelow.{Fit, fit_after, fit_on, fit_at_start}

-- ---- the product is the definitions' fold, and its unit is the core's

occurred : (e : Event) (p q : Product) → Occurred e p q → q ≡ occurs e p
unfolding occurs
occurred (frame f room) p q (Occurred.by_frame {sent = sent} d) = ap (λ (u : List ℕ). record { unit = u; sent = sent }) (did (frame f room) _ _ d)
occurred (tick samples) p q (Occurred.by_tick u s) = ap (λ (u : List ℕ). record { unit = u; sent = q.sent }) u ∙ ap (λ (s : List ℤ). record { unit = ticked samples p.unit; sent = s }) s
occurred (load image) p q (Occurred.by_load {sent = sent} d) = ap (λ (u : List ℕ). record { unit = u; sent = sent }) (did (load image) _ _ d)

pub only_these : OnlyThese
unfolding works
only_these [] p q Worked.stop = refl
only_these (e ∷ es) p r (Worked.then {q = q} o w) = only_these es q r w ∙ ap (works es) (occurred e p q o)

core : (e : Event) (p : Product) → (occurs e p).unit ≡ happens e p.unit
unfolding occurs happens
core (frame f room) p = refl
core (tick samples) p = refl
core (load image) p = refl

pub core_as_before : CoreAsBefore
unfolding works run
core_as_before [] p = refl
core_as_before (e ∷ es) p = core_as_before es (occurs e p) ∙ ap (run es) (core e p)

pub only_ticks_send : OnlyTicksSend
unfolding occurs
only_ticks_send p = (λ f room. refl, λ image. refl)

-- ---- what the coils are sent

-- no event brings both above 0
apart_after : (e : Event) (p : Product) → NotBoth p.sent → NotBoth (occurs e p).sent
unfolding occurs
apart_after (frame f room) p n = n
apart_after (tick samples) p n = never_both _ _
apart_after (load image) p n = n

apart_on : (events : List Event) (p : Product) → NotBoth p.sent → NotBoth (works events p).sent
unfolding works
apart_on [] p n = n
apart_on (e ∷ es) p n = apart_on es (occurs e p) (apart_after e p n)

apart_behind : (before events : List Event) (samples : List ℤ) (p : Product) → NotBoth (works (before ++ tick samples ∷ events) p).sent
unfolding works occurs
apart_behind [] events samples p = apart_on events (occurs (tick samples) p) (never_both _ _)
apart_behind (e ∷ es) events samples p = apart_behind es events samples (occurs e p)

pub never_both_above : NeverBothAbove
unfolding started sent_at_start coil_1
never_both_above = (λ events. apart_on events started (λ a b. above_not_0 a refl), apart_behind)

pub sent_on : SentOn
unfolding occurs
sent_on events p samples coil = each_obeys coil (commands (ticked samples (works events p).unit)) (works events p).sent

-- ---- one tick of a unit whose commands are not below 0

zero_or_above : (z : ℤ) → pos 0 ≤ℤ z → Above0 z ⊎ At0 z
unfolding below
zero_or_above (pos zero) h = inr refl
zero_or_above (pos (suc n)) h = inl (below_is_lt (pos 0) (pos (suc n)) (lt-ltb 0 (suc n) (omega arith)))
zero_or_above (negsuc n) h = absurd h.le

given : {unit : List ℕ} → Fit unit → (coil : Coil) → pos 0 ≤ℤ of coil (commands unit)
unfolding commands coil_1 coil_2
given f one = f.1 0 (lit< tt)
given f two = f.1 1 (lit< tt)

module _ (c s : List ℤ) (least : (coil : Coil) → pos 0 ≤ℤ of coil c) where
  sent_least : (coil : Coil) → pos 0 ≤ℤ of coil (interlocked c s)
  unfolding interlocked coil_1 coil_2 sent_1 sent_2
  sent_least one = chosen (λ (z : ℤ). pos 0 ≤ℤ z) (waits (coil_1 c) (coil_2 s)) (pos 0) (coil_1 c) (λ e. ≤ℤ_refl (pos 0)) (λ e. least one)
  sent_least two = chosen (λ (z : ℤ). pos 0 ≤ℤ z) (waits (coil_2 c) (coil_1 s) || loses c s) (pos 0) (coil_2 c) (λ e. ≤ℤ_refl (pos 0)) (λ e. least two)

  -- beside a coil that was above 0 the other is sent 0
  beside : (coil : Coil) → Above0 (of coil s) → At0 (of (other coil) (interlocked c s))
  beside coil a = by coil a (zero_or_above (of (other coil) c) (least (other coil)))
    where
      by : (coil : Coil) → Above0 (of coil s) → Above0 (of (other coil) c) ⊎ At0 (of (other coil) c) → At0 (of (other coil) (interlocked c s))
      by one a (inl b) = (each_obeys two c s).held (b, inl (above_not_0 a))
      by two a (inl b) = (each_obeys one c s).held (b, inl (above_not_0 a))
      by coil a (inr z) = (each_obeys (other coil) c s).free (λ h. above_not_0 h.0 z) ∙ z

  -- a coil that was above 0 beside one at 0 is not held
  goes_on : (coil : Coil) → Above0 (of coil s) → At0 (of (other coil) s) → of coil (interlocked c s) ≡ of coil c
  goes_on coil a z = (each_obeys coil c s).free (λ h. by coil a z h.1)
    where
      by : (coil : Coil) → Above0 (of coil s) → At0 (of (other coil) s) → (At0 (of (other coil) s) → ⊥) ⊎ Loses coil c s → ⊥
      by coil a z (inl n) = n z
      by one a z (inr l) = l
      by two a z (inr l) = above_not_0 a l.1.1

  both_at_0 : (coil : Coil) → At0 (of coil (interlocked c s)) → At0 (of (other coil) (interlocked c s)) → interlocked c s ≡ sent_at_start
  unfolding interlocked coil_1 coil_2 sent_at_start
  both_at_0 one x y = rw (x, y)
  both_at_0 two x y = rw (x, y)

pub commands_not_below_0 : CommandsNotBelow0
commands_not_below_0 events b = (fit_on events at_start b fit_at_start).1

-- ---- who waits

fit : {p : Product} → SinceStart p → Fit p.unit
fit w = subst Fit (sym w.ran) (fit_on w.events at_start w.bytes fit_at_start)

-- what one event more leaves to a list
behind : {es : List Event} (e : Event) (p : Product) → BothAt0 es (occurs e p) → BothAt0 (e ∷ es) p
unfolding works
behind e p b = record { earlier = e ∷ b.earlier; samples = b.samples; later = b.later; parts = ap (λ (l : List Event). e ∷ l) b.parts; sent = b.sent }

changes : (events : List Event) (p : Product) → Fit p.unit → MadeOfBytes events → (coil : Coil)
    → Above0 (of coil p.sent) → (Above0 (of (other coil) p.sent) → ⊥) → Above0 (of (other coil) (works events p).sent) → BothAt0 events p
unfolding works occurs happens
changes [] p f b coil a n q = absurd (n q)
changes (frame g room ∷ es) p f b coil a n q = behind (frame g room) p (changes es (occurs (frame g room) p) (fit_after (frame g room) p.unit (b.0, tt) f) b.1 coil a n q)
changes (load image ∷ es) p f b coil a n q = behind (load image) p (changes es (occurs (load image) p) (fit_after (load image) p.unit (b.0, tt) f) b.1 coil a n q)
changes (tick samples ∷ es) p f b coil a n q = by (zero_or_above (of coil t) (sent_least c p.sent least coil)) (λ m. changes es (occurs (tick samples) p) after b coil m (λ u. above_not_0 u quiet) q)
  where
    after : Fit (happens (tick samples) p.unit)
    after = fit_after (tick samples) p.unit tt f

    c : List ℤ
    c = commands (ticked samples p.unit)

    t : List ℤ
    t = interlocked c p.sent

    least : (coil : Coil) → pos 0 ≤ℤ of coil c
    least = given after

    quiet : At0 (of (other coil) t)
    quiet = beside c p.sent least coil a

    by : Above0 (of coil t) ⊎ At0 (of coil t) → (Above0 (of coil t) → BothAt0 es (occurs (tick samples) p)) → BothAt0 (tick samples ∷ es) p
    by (inl m) more = behind (tick samples) p (more m)
    by (inr z) more = record { earlier = []; samples = samples; later = es; parts = refl; sent = both_at_0 c p.sent least coil z quiet }

pub change_over : ChangeOver
change_over p w events b coil a n q = changes events p (fit w) b coil a n q

waiting : (events : List Event) (p : Product) → Fit p.unit → MadeOfBytes events → (coil : Coil)
    → Above0 (of coil p.sent) → At0 (of (other coil) p.sent) → AsksOn coil events p.unit
    → Above0 (of coil (works events p).sent) × At0 (of (other coil) (works events p).sent)
unfolding works occurs happens
waiting [] p f b coil a z asked = (a, z)
waiting (frame g room ∷ es) p f b coil a z asked = waiting es (occurs (frame g room) p) (fit_after (frame g room) p.unit (b.0, tt) f) b.1 coil a z asked
waiting (load image ∷ es) p f b coil a z asked = waiting es (occurs (load image) p) (fit_after (load image) p.unit (b.0, tt) f) b.1 coil a z asked
waiting (tick samples ∷ es) p f b coil a z asked =
    let after = fit_after (tick samples) p.unit tt f in
    let c = commands (ticked samples p.unit) in
    waiting es (occurs (tick samples) p) after b coil
    (subst Above0 (sym (goes_on c p.sent (given after) coil a z)) asked.0) (beside c p.sent (given after) coil a) asked.1

pub waits_for_the_other : WaitsForTheOther
waits_for_the_other p w events b coil a z asked = waiting events p (fit w) b coil a z asked

pub goes_next : GoesNext
unfolding occurs sent_at_start coil_1 coil_2
goes_next p samples = (λ z. (each_obeys one c s).free (λ h. first z h.1), (λ z n. (each_obeys two c s).free (λ h. second z n h.1), λ e a b. (each_obeys two c s).held (b, inr (a, (ap coil_1 e, ap coil_2 e)))))
  where
    c : List ℤ
    c = commands (ticked samples p.unit)

    s : List ℤ
    s = p.sent

    first : At0 (of two s) → (At0 (of two s) → ⊥) ⊎ ⊥ → ⊥
    first z (inl n) = n z
    first z (inr l) = l

    second : At0 (of one s) → (Above0 (of one c) → ⊥) → (At0 (of one s) → ⊥) ⊎ Loses two c s → ⊥
    second z n (inl m) = m z
    second z n (inr l) = n l.0
