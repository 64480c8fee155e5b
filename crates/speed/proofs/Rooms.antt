-- What a room holds whose bytes a call gave, on plain variables. Assumes nothing.
use mathlib.Core.Path.{◌≡◌, ap, ◌∙◌}
use mathlib.Core.Bool.{Bool, true, false}
use mathlib.Core.List.{List}
use Prim.Native.Nat.{ℕ}
use Rattle.std.specs.Prelude.{Result}
use Rattle.std.specs.Result.{result_unwrap_or}
use Rattle.notions.specs.Choice.{pick}
use Rattle.refusal.specs.declared.Refusal.{Refusal}
use Rattle.sha256.specs.Promises.{Gives}
use Rattle.speed.specs.Promises.{holding}

-- the bytes that were given, or others where they were refused
unwrapped : (t : Bool) (b z : List ℕ) (r : Result (List ℕ) Refusal) → Gives t b r → result_unwrap_or r z ≡ pick t z b
unwrapped true b z r p = ap (λ (x : Result (List ℕ) Refusal). result_unwrap_or x z) p
unwrapped false b z r p = ap (λ (x : Result (List ℕ) Refusal). result_unwrap_or x z) p

pub holds : (t : Bool) (b z d room after : List ℕ) (r : Result (List ℕ) Refusal) → after ≡ holding d room
    → d ≡ result_unwrap_or r z → Gives t b r → after ≡ holding (pick t z b) room
holds t b z d room after r h e p = h ∙ ap (λ (x : List ℕ). holding x room) (e ∙ unwrapped t b z r p)
