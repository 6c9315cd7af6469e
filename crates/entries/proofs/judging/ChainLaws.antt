-- The neighbours of a slot, by its role.
-- Assumes nothing.
use mathlib.Core.Path.{◌≡◌, ap, ◌∙◌}
use Prim.Native.Nat.{ℕ}
use Rattle.roles.specs.Chains.{upper_of, lower_of}
use Rattle.roles.specs.Roles.{Holding, upper_by, lower_by, said, holding, Told}
use Rattle.roles.specs.declared.types.Link.{Link}
use Rattle.roles.specs.declared.types.Role.{Role}

pub above : {role : Role} {slot : ℕ} {l : Link} → Told role slot → l ≡ upper_by role slot → l ≡ upper_of slot
unfolding said holding
above t e = e ∙ ap (λ (h : Holding). h.upper) t.holds

pub beneath : {role : Role} {slot : ℕ} {l : Link} → Told role slot → l ≡ lower_by role slot → l ≡ lower_of slot
unfolding said holding
beneath t e = e ∙ ap (λ (h : Holding). h.lower) t.holds
