-- A row settles its answer. Assumes nothing.
use Rattle.std.specs.Prelude.{◌≡◌, refl, List, [], ◌∷◌, ℕ, get_or, Ok, Err}
use Rattle.std.proofs.Common.{sym, ap, ◌∙◌}
use Rattle.notions.proofs.Settled.{equation_settled}
use Rattle.refusal.specs.declared.Reason.{Reason}
use Rattle.refusal.specs.declared.Reason.TheVariants.{MemorySize, LayoutSize, RegionReversed, RegionSize, ZeroInCode}
use Rattle.refusal.specs.declared.Reason.TheVariants.{RegionsShare, TraceSize, RoomSize, StepNotZero}
use Rattle.refusal.specs.declared.Reason.TheVariants.{ChallengeNotGreater, TokenDiffers, LengthOrTotal}
use Rattle.refusal.specs.declared.Reason.TheVariants.{Contents, Segment, FileSize}
use Rattle.refusal.specs.declared.Refusal.{Refusal}
use Rattle.refusal.specs.Numbers.{number}
use Rattle.refusal.specs.Answers.{Answer, row, refusal_row}
use Rattle.refusal.specs.Promises.{IsNumber, RefusesWith, RefusesAt}

-- the reasons, each at the place of its number; no reason has the number 0
reasons : List Reason
reasons =
    MemorySize ∷ MemorySize ∷ LayoutSize ∷ RegionReversed ∷ RegionSize ∷ ZeroInCode ∷ RegionsShare ∷ TraceSize ∷ RoomSize
    ∷ StepNotZero ∷ ChallengeNotGreater ∷ TokenDiffers ∷ LengthOrTotal ∷ Contents ∷ Segment ∷ FileSize ∷ []

reason_of : ℕ → Reason
reason_of n = get_or reasons n FileSize

reason_back : (n : Reason) → reason_of (number n) ≡ n
unfolding reason_of reasons
reason_back MemorySize = refl
reason_back LayoutSize = refl
reason_back RegionReversed = refl
reason_back RegionSize = refl
reason_back ZeroInCode = refl
reason_back RegionsShare = refl
reason_back TraceSize = refl
reason_back RoomSize = refl
reason_back StepNotZero = refl
reason_back ChallengeNotGreater = refl
reason_back TokenDiffers = refl
reason_back LengthOrTotal = refl
reason_back Contents = refl
reason_back Segment = refl
reason_back FileSize = refl

pub number_settled : (a b : Reason) → number a ≡ number b → a ≡ b
number_settled a b e = sym (reason_back a) ∙ ap reason_of e ∙ reason_back b

pub refusal_settled : (a b : Refusal) → refusal_row a ≡ refusal_row b → a ≡ b
refusal_settled a b e =
    let n : a.reason ≡ b.reason = number_settled a.reason b.reason (cc) in
    let p : a.place ≡ b.place = cc in
    ap (λ (x : Reason). record { reason = x; place = a.place }) n
    ∙ ap (λ (x : ℕ). record { reason = b.reason; place = x }) p

pub row_settled : (a b : Answer) → row a ≡ row b → a ≡ b
row_settled (Ok u) (Ok v) e = refl
row_settled (Ok u) (Err r) e = absurd (cc)
row_settled (Err r) (Ok u) e = absurd (cc)
row_settled (Err r) (Err s) e = ap Err (refusal_settled r s e)

pub is_number_settled : (n : Reason) (r q : ℕ) → IsNumber n r → IsNumber n q → r ≡ q
is_number_settled n = equation_settled

pub refuses_at_settled : (n : Reason) (p : ℕ) (r q : Refusal) → RefusesAt n p r → RefusesAt n p q → r ≡ q
refuses_at_settled n p = equation_settled

pub refuses_with_settled : (n : Reason) (r q : Refusal) → RefusesWith n r → RefusesWith n q → r ≡ q
refuses_with_settled n = equation_settled
