-- What the station's answers mean, for readers and for the crates above. Assumes nothing.
use mathlib.Core.Path.{◌≡◌, refl, ◌∙◌}
use mathlib.Core.Logic.{◌≢◌}
use mathlib.Core.Bool.{Bool, true, false, ◌||◌}
use mathlib.Core.List.{List, [], ◌∷◌}
use Prim.Native.Nat.{ℕ}
use native.Mathlib.Omega.{arith}
use lib.Dec.{eqb, ltb}
use lib.ListN.{length}
use borrow.Author.Tests.{eqb-true, eqb-false, eq-eqb, ne_eqb, ltb-false, le-ltb, not-false}
use Rattle.notions.specs.Choice.{pick}
use Rattle.refusal.specs.Answers.{refused_at, told}
use Rattle.refusal.specs.declared.Reason.TheVariants.{LengthOrTotal}
use Rattle.refusal.specs.declared.Refusal.{Refusal}
use Rattle.notions.proofs.Tests.{neither, clash, untrue}
use Rattle.routine.specs.Strings.{same}
use Rattle.routine.specs.Routine.{reply}
use Rattle.routine.proofs.Order.{same_equal, equal_same}
use Rattle.station.specs.Lengths.{Lengths}
use Rattle.station.specs.Promises.{not_of, token_unfit, check_unfit, verdict_row, ChecksReply}
use Rattle.station.proofs.Settled.{verdict_row_settled}
use Rattle.std.specs.Prelude.{Err, Ok, Result}

-- ---- lengths

of_length : (n : ℕ) (b : List ℕ) → not_of n b ≡ false → length b ≡ n
of_length n b e = eqb-true (length b) n (not-false (eqb (length b) n) e)

length_of : (n : ℕ) (b : List ℕ) → length b ≡ n → not_of n b ≡ false
length_of n b e = simp (eq-eqb (length b) n e)

pub token_fits : (k challenge : List ℕ) → length k ≡ 64 → length challenge ≡ 32 → token_unfit k challenge ≡ false
token_fits k challenge a b = simp (length_of 64 k a, length_of 32 challenge b)

module _ (k challenge given region : List ℕ) where
  pub lengths_fit : Lengths k challenge given region → check_unfit k challenge given region ≡ false
  lengths_fit f =
      let s = f.some in
      let n = ne_eqb (length region) 0 (λ e. omega arith) in
      simp (
        length_of 64 k f.key,
        length_of 32 challenge f.challenge,
        length_of 32 given f.reply,
        n,
        le-ltb 65536 (length region) f.most,
      )

  pub fit_lengths : check_unfit k challenge given region ≡ false → Lengths k challenge given region
  fit_lengths e =
      let u = token_unfit k challenge in
      let p = neither (u || not_of 32 given || eqb (length region) 0) (ltb 65536 (length region)) e in
      let q = neither (u || not_of 32 given) (eqb (length region) 0) p.0 in
      let s = neither u (not_of 32 given) q.0 in
      let t = neither (not_of 64 k) (not_of 32 challenge) s.0 in
      let n = eqb-false (length region) 0 q.1 in
      record {
        key = of_length 64 k t.0;
        challenge = of_length 32 challenge t.1;
        reply = of_length 32 given s.1;
        some = omega arith;
        most = ltb-false 65536 (length region) p.1;
      }

-- ---- verdicts

-- on plain variables: t says that the lengths are unfit, s that the replies are the same
abbrev says : Bool → Bool → List ℕ
says t s = told (pick t (refused_at LengthOrTotal 0) (Ok tt)) (pick s (1 ∷ 0 ∷ []) (0 ∷ 1 ∷ []))

told_yes : (t s : Bool) → verdict_row (Ok true) ≡ says t s → (t ≡ false) × (s ≡ true)
told_yes true s e = absurd (cc)
told_yes false true e = (refl, refl)
told_yes false false e = absurd (cc)

told_no : (t s : Bool) → verdict_row (Ok false) ≡ says t s → (t ≡ false) × (s ≡ false)
told_no true s e = absurd (cc)
told_no false true e = absurd (cc)
told_no false false e = (refl, refl)

told_refused : (t s : Bool) (r : Refusal) → verdict_row (Err r) ≡ says t s → t ≡ true
told_refused true s r e = refl
told_refused false true r e = absurd (cc)
told_refused false false r e = absurd (cc)

module _ {k challenge given region : List ℕ} where
  pub said_yes : ChecksReply k challenge given region (Ok true)
      → Lengths k challenge given region × (given ≡ reply k challenge region)
  said_yes p =
      let q = told_yes (check_unfit k challenge given region) (same given (reply k challenge region)) p.answered in
      (fit_lengths k challenge given region q.0, same_equal given (reply k challenge region) q.1)

  pub says_yes : (v : Result Bool Refusal) → ChecksReply k challenge given region v
      → Lengths k challenge given region → given ≡ reply k challenge region → v ≡ Ok true
  says_yes v p f e =
      verdict_row_settled v (Ok true)
      (p.answered ∙ simp (lengths_fit k challenge given region f, equal_same given (reply k challenge region) e))

  pub said_no : ChecksReply k challenge given region (Ok false)
      → Lengths k challenge given region × (given ≢ reply k challenge region)
  said_no p =
      let q = told_no (check_unfit k challenge given region) (same given (reply k challenge region)) p.answered in (
        fit_lengths k challenge given region q.0,
        λ e. clash (same given (reply k challenge region)) (equal_same given (reply k challenge region) e) q.1,
      )

  pub says_no : (v : Result Bool Refusal) → ChecksReply k challenge given region v
      → Lengths k challenge given region → given ≢ reply k challenge region → v ≡ Ok false
  says_no v p f n =
      let s = untrue (same given (reply k challenge region)) (λ e. n (same_equal given (reply k challenge region) e)) in
      verdict_row_settled v (Ok false) (p.answered ∙ simp (lengths_fit k challenge given region f, s))

  pub said_refused : (r : Refusal) → ChecksReply k challenge given region (Err r)
      → check_unfit k challenge given region ≡ true
  said_refused r p = told_refused (check_unfit k challenge given region) (same given (reply k challenge region)) r
      p.answered

  pub says_refused : (v : Result Bool Refusal) → ChecksReply k challenge given region v → check_unfit k challenge given region ≡ true
      → v ≡ Err (record { reason = LengthOrTotal; place = 0 })
  says_refused v p e = verdict_row_settled v (Err (record { reason = LengthOrTotal; place = 0 }))
      (p.answered ∙ simp e)
