-- The number of a reply's bytes, from what serving the frame answers.
-- Assumes nothing.
use Prim.Native.Nat.{ℕ}
use mathlib.Core.List.{List}
use mathlib.Core.Path.{◌≡◌, refl, sym, ap, ◌∙◌}
use lib.IntN.{pos}
use lib.ListN.{length}
use Rattle.std.specs.Prelude.{None}
use Rattle.sdo.specs.Frames.{Answer, reply_to}
use Rattle.sdo.specs.Served.{Served, after, filled}
use Rattle.firmware.specs.Replied.{Replied}

pub silent : (frame : List ℕ) → length (reply_to frame None) ≡ 0
unfolding reply_to
silent frame = refl

pub replied : {unit frame reply unit' reply' : List ℕ} {r : Answer} (n : ℕ) → Served unit frame reply unit' reply' r → length (reply_to frame r) ≡ n → Replied unit frame reply unit' reply' (pos n)
replied {unit} {frame} {reply} n s e =
    record {
      state = s.state ∙ ap (after unit) s.answered;
      bytes = s.bytes ∙ ap (filled reply frame) s.answered;
      count = ap pos (sym e ∙ ap (λ (a : Answer). length (reply_to frame a)) s.answered);
    }
