-- The promises, by cases on what is refused. Assumes nothing.
use mathlib.Core.Path.{◌≡◌, ap}
use mathlib.Core.Bool.{Bool, true, false}
use mathlib.Core.List.{List}
use Prim.Native.Nat.{ℕ, ◌+◌}
use lib.ListN.{length}
use Rattle.refusal.specs.declared.Refusal.{Refusal}
use Rattle.refusal.specs.declared.Reason.TheVariants.{LengthOrTotal}
use Rattle.refusal.specs.Answers.{Answer, row, refused_with}
use Rattle.sha256.specs.declared.Sha.{Sha}
use Rattle.sha256.specs.Running.{taken}
use Rattle.sha256.specs.Promises.{over, too_long, Gives, TakesIn}
use Rattle.std.specs.Prelude.{Ok, Err}

pub gives_refused : {t : Bool} (d : List ℕ) {r : Refusal} → t ≡ true → r ≡ too_long → Gives t d (Err r)
gives_refused d e p = rw e (ap Err p)

pub gives_given : {t : Bool} {b d : List ℕ} → t ≡ false → b ≡ d → Gives t d (Ok b)
gives_given e q = rw e (ap Ok q)

module _ (s : Sha) (x : List ℕ) where
  pub takes_in_refused : (a : Answer) → row a ≡ refused_with LengthOrTotal → over (s.total + length x) ≡ true
      → TakesIn s x (record { answer = a; state = s })
  takes_in_refused a p e = record { answered = rw e p; handed = rw e }

  pub takes_in_done : (n : Sha) → over (s.total + length x) ≡ false → n ≡ taken s x
      → TakesIn s x (record { answer = Ok tt; state = n })
  takes_in_done n e q = record { answered = rw e; handed = rw e q }
