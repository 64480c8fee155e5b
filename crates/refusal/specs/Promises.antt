-- What the functions of this crate promise, for all inputs. Assumes nothing.
use Rattle.std.specs.Prelude.{◌≡◌, ℕ}
use Rattle.refusal.specs.declared.Reason.{Reason}
use Rattle.refusal.specs.declared.Refusal.{Refusal}
use Rattle.refusal.specs.Numbers.{number}

-- `Reason::number`: the page's
abbrev pub IsNumber : Reason → ℕ → Type 0
IsNumber n r = r ≡ number n

-- `Reason::at`: for this reason, at this place
abbrev pub RefusesAt : Reason → ℕ → Refusal → Type 0
RefusesAt n p r = r ≡ record { reason = n; place = p }

-- `Refusal::from`: for this reason, at no named place
abbrev pub RefusesWith : Reason → Refusal → Type 0
RefusesWith n r = RefusesAt n 0 r
