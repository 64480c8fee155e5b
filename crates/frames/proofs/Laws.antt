-- A stream of calls: the laws of specs/Streams.antt. Assumes nothing.
use mathlib.Core.Path.{◌≡◌, refl, ap, sym, ◌∙◌, subst}
use mathlib.Core.Bool.{Bool, true, false}
use mathlib.Core.List.{List, [], ◌∷◌, ◌++◌, append_assoc}
use Prim.Native.Nat.{ℕ, zero, suc, ◌+◌, ◌-◌, ◌*◌, ◌≤◌, ◌<◌}
use native.Mathlib.Omega.{arith}
use lib.Dec.{ltb}
use lib.ListN.{length, get_or, take, drop, length-append, length-drop, take-append-drop}
use lib.Seq.{length-take-le, take-add}
use borrow.Author.Tests.{ltb-true, ltb-false}
use Rattle.notions.specs.Bytes.{Bytes}
use Rattle.notions.specs.Choice.{pick}
use Rattle.notions.proofs.Bytes.{bytes_take, bytes_drop}
use Rattle.notions.proofs.Tests.{cases, clash}
use Rattle.octets.specs.Numbers.{little}
use Rattle.octets.proofs.Laws.{bytes_back}
use Rattle.frames.specs.declared.Framed.{Framed}
use Rattle.frames.specs.declared.Framed.TheVariants.{Needs, Whole, Cut}
use Rattle.frames.specs.Calls.{most_argument_bytes, listed, count, allowed}
use Rattle.frames.specs.Frames.{size, behind, framed_one, if_whole, framed_from, framed, first_argument, skipped}
use Rattle.frames.specs.Promises.{Copies}
use Rattle.frames.specs.Streams.{sent, Lawful, WholeCall, BegunCall, IsCall, AsksForMore}
use Rattle.frames.proofs.Table.{few_arguments}
use Rattle.frames.proofs.Walk.{not_whole, one_if, one_is_whole, one_cases}
use Rattle.frames.proofs.Sent.{Fits, lawful_fits, fits_lawful, fits_none, allowed_here, few_here, fits_behind}
use Rattle.frames.proofs.Sent.{fits_more, length_sent, behind_sent, argument_sent, walk_sent}
use Rattle.frames.proofs.Begun.{Begun, begun_length, begun_argument, begun_behind}

-- ---- more bytes are asked for

abbrev asked : Framed → ℕ
asked (Needs k) = k
asked Whole = 0
asked Cut = 0

abbrev asks : Framed → Bool
asks (Needs k) = true
asks Whole = false
asks Cut = false

asks_from : (n i k used : ℕ) (b : List ℕ) (m : ℕ) → used ≤ most_argument_bytes → framed_from n i k used b ≡ Needs m
    → (0 < m) × (length b + m ≤ 4 * k + (most_argument_bytes - used))
unfolding framed_from
asks_from n i zero used b m u e = clash false (ap asks e) refl
asks_from n i (suc k) used b m u e =
    let next = framed_from n (suc i) k (used + size b) (behind b) in
    let then : (f : Framed) → framed_one n i used b ≡ f → if_whole f next ≡ Needs m
    = λ f q. sym (ap (λ (g : Framed). if_whole g next) q) ∙ e in
    let o = one_if n i used b in
    one_cases (allowed n i (size b)) used b
    (λ h q. let s : 4 - length b ≡ m = ap asked (then (Needs (4 - length b)) (o ∙ q)) in (omega arith, omega arith))
    (λ q. clash false (ap asks (then Cut (o ∙ q))) refl)
    (λ h f q. let s : 4 + size b - length b ≡ m = ap asked (then (Needs (4 + size b - length b)) (o ∙ q)) in
    (omega arith, omega arith))
    (λ w q. let r = asks_from n (suc i) k (used + size b) (behind b) m w.few (then Whole (o ∙ q)) in
    let l : length (behind b) ≡ length b - (4 + size b) = length-drop (4 + size b) b in
    (r.0, omega (arith, r.1, w.there, w.few, l)))

pub asks_for_more : AsksForMore
unfolding framed
asks_for_more [] k e = let s : 1 ≡ k = ap asked e in (omega arith, omega arith)
asks_for_more (n ∷ b) k e =
    let then : (t : Bool) → listed n ≡ t → pick t (framed_from n 0 (count n) 0 b) Cut ≡ Needs k
    = λ t q. sym (ap (λ (x : Bool). pick x (framed_from n 0 (count n) 0 b) Cut) q) ∙ e in
    cases (listed n)
    (λ q. let r = asks_from n 0 (count n) 0 b k (omega arith) (then true q) in
    (r.0, omega (arith, r.1, few_arguments n)))
    (λ q. clash false (ap asks (then false q)) refl)

-- ---- a whole call

listed_from : (n : ℕ) (b : List ℕ) → listed n ≡ true → framed (n ∷ b) ≡ framed_from n 0 (count n) 0 b
unfolding framed
listed_from n b h = simp h

lawful_from : (n : ℕ) (args : List (List ℕ)) (b : List ℕ) → Lawful n args
    → framed (n ∷ b) ≡ framed_from n 0 (length args) 0 b
lawful_from n args b l = listed_from n b l.is_listed ∙ ap (λ (k : ℕ). framed_from n 0 k 0 b) (sym l.many)

whole_from : (n i used : ℕ) (args : List (List ℕ)) (b : List ℕ) → Fits n i used args
    → framed_from n i (length args) used (sent args ++ b) ≡ Whole
unfolding sent framed_from
whole_from n i used [] b f = refl
whole_from n i used (a ∷ args) b f =
    ap (framed_from n i (suc (length args)) used) (append_assoc (little 4 (length a) ++ a) (sent args) b)
    ∙ walk_sent n i used (length args) a (sent args ++ b) (allowed_here n i used a args f) (few_here n i used a args f)
    ∙ whole_from n (suc i) (used + length a) args b (fits_behind n i used a args f)

arguments_from : (n i used : ℕ) (args : List (List ℕ)) (b : List ℕ) → Fits n i used args
    → (j : ℕ) → j < length args → first_argument (skipped j (sent args ++ b)) ≡ get_or args j []
unfolding sent skipped
arguments_from n i used [] b f j h = absurd (omega (arith, h))
arguments_from n i used (a ∷ args) b f zero h =
    ap first_argument (append_assoc (little 4 (length a) ++ a) (sent args) b)
    ∙ argument_sent a (sent args ++ b) (omega (arith, few_here n i used a args f))
arguments_from n i used (a ∷ args) b f (suc j) h =
    ap (λ (d : List ℕ). first_argument (skipped (suc j) d)) (append_assoc (little 4 (length a) ++ a) (sent args) b)
    ∙ ap (λ (d : List ℕ). first_argument (skipped j d))
    (behind_sent a (sent args ++ b) (omega (arith, few_here n i used a args f)))
    ∙ arguments_from n (suc i) (used + length a) args b (fits_behind n i used a args f) j (omega arith)

pub whole_call : WholeCall
whole_call n args b l =
    let f = lawful_fits n args l in
    (lawful_from n args (sent args ++ b) l ∙ whole_from n 0 0 args b f, arguments_from n 0 0 args b f)

-- ---- the beginning of a call

begun_from : (n i used : ℕ) (args : List (List ℕ)) (j : ℕ) → Fits n i used args → j < length (sent args)
    → Begun n i (length args) used (sent args) j
unfolding sent
begun_from n i used [] j f l = absurd (omega (arith, l))
begun_from n i used (a ∷ args) j f l =
    let h = allowed_here n i used a args f in
    let u = few_here n i used a args f in
    cases (ltb j 4)
    (λ e. begun_length n i (length args) used a (sent args) j h u l (ltb-true j 4 e))
    (λ e. cases (ltb j (4 + length a))
    (λ q. begun_argument n i (length args) used a (sent args) j h u l (ltb-false j 4 e) (ltb-true j (4 + length a) q))
    (λ q. let g = ltb-false j (4 + length a) q in
    begun_behind n i (length args) used a (sent args) j h u l g
    (begun_from n (suc i) (used + length a) args (j - (4 + length a)) (fits_behind n i used a args f)
    (omega (arith, length_sent a (sent args), l, g)))))

pub begun_call : BegunCall
unfolding framed
begun_call n args zero l h = record { more = 1; asked = refl; some = omega arith; its_own = omega arith }
begun_call n args (suc j) l h =
    let r = begun_from n 0 0 args j (lawful_fits n args l) (omega (arith, h)) in
    let p : length (take j (sent args)) ≡ j = length-take-le j (sent args) (omega (arith, h)) in
    record {
      more = r.more;
      asked = lawful_from n args (take j (sent args)) l ∙ r.asked_for;
      some = r.some;
      its_own = omega (arith, r.its_own, p);
    }

-- ---- what is whole is a call

record Begins (n i k used : ℕ) (b : List ℕ) : Type 0 where
  args : List (List ℕ)
  rest : List ℕ
  said : b ≡ sent args ++ rest
  many : length args ≡ k
  fits : Fits n i used args

both_whole : (one f : Framed) → if_whole one f ≡ Whole → (one ≡ Whole) × (f ≡ Whole)
both_whole (Needs k) f e = not_whole (Needs k) refl e
both_whole Whole f e = (refl, e)
both_whole Cut f e = not_whole Cut refl e

-- an argument is what its length and the bytes behind it say
argument_said : (b : List ℕ) → Bytes b → 4 + size b ≤ length b
    → (length (take (size b) (drop 4 b)) ≡ size b)
    × (little 4 (size b) ++ take (size b) (drop 4 b) ++ behind b ≡ b)
argument_said b p h =
    let four : length (take 4 b) ≡ 4 = length-take-le 4 b (omega arith) in
    let back : little 4 (size b) ≡ take 4 b
    = ap (λ (k : ℕ). little k (size b)) (sym four) ∙ bytes_back (take 4 b) (bytes_take 4 b p) in (
      length-take-le (size b) (drop 4 b) (omega (arith, length-drop 4 b)),
      ap (λ (x : List ℕ). x ++ take (size b) (drop 4 b) ++ behind b) back
          ∙ ap (λ (x : List ℕ). x ++ behind b) (sym (take-add 4 (size b) b))
          ∙ take-append-drop (4 + size b) b,
    )

begins_from : (n i k used : ℕ) (b : List ℕ) → Bytes b → used ≤ most_argument_bytes → framed_from n i k used b ≡ Whole
    → Begins n i k used b
unfolding framed_from sent
begins_from n i zero used b p u w =
    record { args = []; rest = b; said = refl; many = refl; fits = fits_none n i used u }
begins_from n i (suc k) used b p u w =
    let two = both_whole (framed_one n i used b) (framed_from n (suc i) k (used + size b) (behind b)) w in
    let one = one_is_whole (allowed n i (size b)) used b (sym (one_if n i used b) ∙ two.0) in
    let r = begins_from n (suc i) k (used + size b) (behind b) (bytes_drop (4 + size b) b p) one.few two.1 in
    let a = take (size b) (drop 4 b) in
    let said_here_lem = argument_said b p one.there in
    record {
      args = a ∷ r.args;
      rest = r.rest;
      said = sym said_here_lem.1
          ∙ ap (λ (m : ℕ). little 4 m ++ a ++ behind b) (sym said_here_lem.0)
          ∙ ap (λ (x : List ℕ). little 4 (length a) ++ a ++ x) r.said
          ∙ sym (append_assoc (little 4 (length a) ++ a) (sent r.args) r.rest);
      many = ap suc r.many;
      fits = fits_more n i used a r.args
          (ap (allowed n i) said_here_lem.0 ∙ one.allows)
          (subst (λ (m : ℕ). Fits n (suc i) (used + m) r.args) (sym said_here_lem.0) r.fits);
    }

pub is_call : IsCall
unfolding framed
is_call [] p w = not_whole (Needs 1) refl w
is_call (n ∷ b) p w =
    cases (listed n)
    (λ q. let r = begins_from n 0 (count n) 0 b (λ i. p (suc i)) (omega arith) (sym (listed_from n b q) ∙ w) in
    record {
      args = r.args;
      rest = r.rest;
      said = ap (λ (x : List ℕ). n ∷ x) r.said;
      lawful = fits_lawful n r.args q r.many r.fits;
    })
    (λ q. not_whole Cut refl (sym (ap (λ (x : Bool). pick x (framed_from n 0 (count n) 0 b) Cut) q) ∙ w))

-- what `argument` answers is within the room
pub copies_within : {b : List ℕ} {i : ℕ} {room room' : List ℕ} {r : ℕ} → Copies b i room room' r → r ≤ length room'
copies_within p = rw (p.answered, p.room_left, length-append) (omega arith)
