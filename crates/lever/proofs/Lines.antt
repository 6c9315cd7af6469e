-- What the answering functions share: a line told in another way, the numbers after O, and what is asked decides.
-- Assumes nothing.
use Prim.Native.Nat.{ℕ, ◌<◌, ◌≤◌}
use mathlib.Core.List.{List, [], ◌∷◌}
use mathlib.Core.Path.{◌≡◌, refl, sym, subst}
use borrow.Author.Tests.{le-leb, lt-leb}
use lib.IntN.{ℤ, pos}
use lib.ListN.{length, get_or}
use Rattle.std.specs.Prelude.{Some, None}
use Rattle.numbers.specs.Choice.{first}
use Rattle.firmware.specs.Published.{commands, register}
use Rattle.spool.specs.Interlock.{coil_1, coil_2}
use Rattle.printer.specs.Printing.{Printed, tick_line, unknown_line}
use Rattle.printer.specs.Answering as core
use Rattle.printer.specs.Reading.{asked}
use Rattle.printer.specs.declared.reading.Request.TheVariants.{Frame, Tick}
use Rattle.lever.specs.Told.{Told, sent_line, sampled, passed, by_request, told, Answers}

pub answers : {s t : Told} {unit : List ℕ} {sent : List ℤ} {before after : List ℕ} {n : ℕ} → t ≡ s → Answers s unit sent before after n → Answers t unit sent before after n
answers {s} {t} {unit} {sent} {before} {after} {n} e a = subst (λ (x : Told). Answers x unit sent before after n) (sym e) a

pub sent_line_lem : (unit : List ℕ) (sent four : List ℤ) {a b c d : ℤ} {r : ℕ} → four ≡ commands unit → r ≡ register unit →
    a ≡ get_or sent 0 (pos 0) → b ≡ get_or sent 1 (pos 0) → c ≡ get_or four 2 (pos 0) → d ≡ get_or four 3 (pos 0) → tick_line (a ∷ b ∷ c ∷ d ∷ []) r ≡ sent_line unit sent
unfolding sent_line coil_1 coil_2
sent_line_lem unit sent four e r ea eb ec ed = rw (ea, eb, ec, ed, e, r)

module _ (line unit : List ℕ) (sent : List ℤ) where
  pub too_long : 64 < length line → told line unit sent ≡ passed (core.unheard unit) sent
  unfolding told first
  too_long h = rw (lt-leb (length line) 64 h)

  module _ (short : length line ≤ 64) where
    pub framed : (frame : List ℕ) → asked line ≡ Some (Frame frame) → told line unit sent ≡ passed (core.said line unit) sent
    unfolding told first by_request
    framed frame e = rw (le-leb (length line) 64 short, e)

    pub timed : (samples : List ℤ) → asked line ≡ Some (Tick samples) → told line unit sent ≡ sampled samples unit sent
    unfolding told first by_request
    timed samples e = rw (le-leb (length line) 64 short, e)

    pub unknown : asked line ≡ None → told line unit sent ≡ passed (core.said line unit) sent
    unfolding told first by_request
    unknown e = rw (le-leb (length line) 64 short, e)

-- the core's answer, beside coils that are sent nothing new
pub beside : {s : core.Said} {unit before after : List ℕ} {n : ℕ} (sent : List ℤ) → core.Answers s unit before after n → Answers (passed s sent) unit sent before after n
unfolding passed
beside sent a = record { left = a.left; coils = refl; print = a.print }

-- a line that is not heard leaves everything
pub unheard : {unit before after : List ℕ} {n : ℕ} (sent : List ℤ) → Printed unknown_line before after n → Answers (passed (core.unheard unit) sent) unit sent before after n
unfolding passed core.unheard
unheard sent p = record { left = refl; coils = refl; print = p }
