-- What has been heard is kept from byte to byte (`Steps.Hearing`).
-- Assumes nothing.
use Rattle.session.specs.Dialogue.{kept_of}
use Rattle.session.proofs.dialogue.Steps.{Hearing}
use Rattle.session.proofs.dialogue.hear.Given as goal

abbrev pub invariant-loop-byte : goal.invariant-loop-byte
invariant-loop-byte l = Hearing (kept_of l.fn.unit l.fn.line) l.part l.initial.room l.byte-index (kept_of l.unit l.line) l.room l.printed
