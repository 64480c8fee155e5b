-- The station's calls on plain variables: what follows from the lengths that have passed. Assumes nothing.
use mathlib.Core.Path.{◌≡◌, sym, ap, ◌∙◌}
use mathlib.Core.Bool.{Bool, true, false, ◌||◌}
use mathlib.Core.List.{List}
use Prim.Native.Nat.{ℕ, ◌≤◌}
use native.Mathlib.Omega.{arith}
use borrow.Author.Tests.{eqb-true, le-ltb, not-false}
use lib.Dec.{eqb, ltb}
use lib.ListN.{length}
use Rattle.refusal.specs.Answers.{refusal_row}
use Rattle.notions.proofs.Tests.{neither}
use Rattle.refusal.specs.declared.Refusal.{Refusal}
use Rattle.sha256.specs.Promises.{too_long}
use Rattle.sha256.proofs.Laws.{gives_ok}
use Rattle.hmac.specs.Promises.{most, long}
use Rattle.routine.specs.Strings.{same}
use Rattle.routine.specs.Routine.{reply}
use Rattle.routine.specs.Promises.{Tokens, Replies}
use Rattle.station.specs.Promises.{not_of, token_unfit, check_unfit, MakesToken, ChecksReply}
use Rattle.std.specs.Prelude.{Err, Ok, Result}

short : (n : ℕ) (b : List ℕ) → n ≤ most → not_of n b ≡ false → long b ≡ false
short n b h e = le-ltb most (length b) (omega (arith, eqb-true (length b) n (not-false (eqb (length b) n) e)))

both_short : (k challenge : List ℕ) → token_unfit k challenge ≡ false → (long k || long challenge) ≡ false
both_short k challenge e =
    let p = neither (not_of 64 k) (not_of 32 challenge) e in
    simp (short 64 k (omega arith) p.0, short 32 challenge (omega arith) p.1)

pub token_given : (k challenge : List ℕ) (r : Result (List ℕ) Refusal) → token_unfit k challenge ≡ false → Tokens k challenge r
    → MakesToken k challenge r
token_given k challenge r e p =
    rw e (rw (both_short k challenge e) at p)

module _ (k challenge given region : List ℕ) where
  pub check_refused : {r : Refusal} → check_unfit k challenge given region ≡ true → r ≡ too_long
      → ChecksReply k challenge given region (Err r)
  check_refused e q = record { answered = ap refusal_row q ∙ simp e }

  module _ (e : check_unfit k challenge given region ≡ false) where
    fits : (long k || long challenge || long region) ≡ false
    fits =
        let a = neither (token_unfit k challenge || not_of 32 given || eqb (length region) 0)
        (ltb most (length region)) e in
        let b = neither (token_unfit k challenge || not_of 32 given) (eqb (length region) 0) a.0 in
        let c = neither (token_unfit k challenge) (not_of 32 given) b.0 in
        simp (both_short k challenge c.0, a.1)

    module _ (d : List ℕ) (p : Replies k challenge region (Ok d)) where
      worked_out_lem : d ≡ reply k challenge region
      worked_out_lem = (gives_ok _ _ p).1

    pub checked : {d : List ℕ} (t : Bool) → Replies k challenge region (Ok d) → t ≡ same given d
        → ChecksReply k challenge given region (Ok t)
    checked true p s = record { answered = simp (e, sym (rw (gives_ok _ _ p).1 at s)) }
    checked false p s = record { answered = simp (e, sym (rw (gives_ok _ _ p).1 at s)) }
