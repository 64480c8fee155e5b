-- Arguments as they are sent. Assumes nothing.
use mathlib.Core.Path.{◌≡◌, refl, ap, ◌∙◌}
use mathlib.Core.Bool.{Bool, true, false, not, ◌||◌}
use mathlib.Core.List.{List, [], ◌∷◌, ◌++◌, append_assoc}
use Prim.Native.Nat.{ℕ, zero, suc, ◌+◌, ◌/◌, ◌≤◌, ◌<◌}
use native.Mathlib.Omega.{arith}
use lib.Dec.{ltb}
use lib.ListN.{length, get_or, take, drop, length-append}
use lib.Seq.{take_at, drop_at}
use borrow.Author.Tests.{le-ltb}
use Rattle.octets.specs.Numbers.{number, little}
use Rattle.octets.proofs.Laws.{number_back}
use Rattle.frames.specs.declared.Framed.{Framed}
use Rattle.frames.specs.declared.Framed.TheVariants.{Whole}
use Rattle.frames.specs.Calls.{most_argument_bytes, listed, count, allowed}
use Rattle.frames.specs.Frames.{size, behind, framed_one, if_whole, framed_from, first_argument}
use Rattle.frames.specs.Streams.{together, Lawful}
use Rattle.frames.proofs.Walk.{one_if, one_whole, from_suc}

-- ---- the arguments from i on

-- each has a length that it may have, and with the `used` bytes before them they are not too long
pub record Fits (n i used : ℕ) (args : List (List ℕ)) : Type 0 where
  pub each : (j : ℕ) → j < length args → allowed n (i + j) (length (get_or args j [])) ≡ true
  pub few : used + together args ≤ most_argument_bytes

pub lawful_fits : (n : ℕ) (args : List (List ℕ)) → Lawful n args → Fits n 0 0 args
lawful_fits n args l =
    record {
      each = λ j h. let s : 0 + j ≡ j = omega arith in
          ap (λ (k : ℕ). allowed n k (length (get_or args j []))) s ∙ l.each j h;
      few = omega (arith, l.not_long);
    }

pub fits_lawful : (n : ℕ) (args : List (List ℕ)) → listed n ≡ true → length args ≡ count n → Fits n 0 0 args
    → Lawful n args
fits_lawful n args z m f =
    record {
      is_listed = z;
      many = m;
      each = λ j h. let s : j ≡ 0 + j = omega arith in
          ap (λ (k : ℕ). allowed n k (length (get_or args j []))) s ∙ f.each j h;
      not_long = omega (arith, f.few);
    }

pub fits_none : (n i used : ℕ) → used ≤ most_argument_bytes → Fits n i used []
unfolding together
fits_none n i used h = record { each = λ j l. absurd (omega (arith, l)); few = omega arith }

module _ (n i used : ℕ) (a : List ℕ) (args : List (List ℕ)) where
  more : together (a ∷ args) ≡ length a + together args
  unfolding together
  more = refl

  module _ (f : Fits n i used (a ∷ args)) where
    pub allowed_here : allowed n i (length a) ≡ true
    allowed_here =
        let s : i ≡ i + 0 = omega arith in
        ap (λ (k : ℕ). allowed n k (length a)) s ∙ f.each 0 (omega arith)

    pub few_here : used + length a ≤ most_argument_bytes
    few_here = omega (arith, f.few, more)

    pub fits_behind : Fits n (suc i) (used + length a) args
    fits_behind =
        record {
          each = λ j h. let s : suc i + j ≡ i + suc j = omega arith in
              ap (λ (k : ℕ). allowed n k (length (get_or args j []))) s ∙ f.each (suc j) (omega arith);
          few = omega (arith, f.few, more);
        }

  module _ (h : allowed n i (length a) ≡ true) (f : Fits n (suc i) (used + length a) args) where
    each_more : (j : ℕ) → j < length (a ∷ args) → allowed n (i + j) (length (get_or (a ∷ args) j [])) ≡ true
    each_more zero l = let s : i + 0 ≡ i = omega arith in ap (λ (k : ℕ). allowed n k (length a)) s ∙ h
    each_more (suc j) l =
        let s : i + suc j ≡ suc i + j = omega arith in
        ap (λ (k : ℕ). allowed n k (length (get_or args j []))) s ∙ f.each j (omega arith)

    pub fits_more : Fits n i used (a ∷ args)
    fits_more = record { each = each_more; few = omega (arith, f.few, more) }

-- ---- one argument a, and the bytes s behind it

length_little : (k n : ℕ) → length (little k n) ≡ k
unfolding little
length_little zero n = refl
length_little (suc k) n = ap suc (length_little k (n / 256))

module _ (a s : List ℕ) where
  pub length_front : length (little 4 (length a) ++ a) ≡ 4 + length a
  length_front = length-append (little 4 (length a)) a ∙ ap (λ (k : ℕ). k + length a) (length_little 4 (length a))

  pub length_sent : length (little 4 (length a) ++ a ++ s) ≡ 4 + length a + length s
  length_sent = length-append (little 4 (length a) ++ a) s ∙ ap (λ (k : ℕ). k + length s) length_front

  pub length_first : take 4 (little 4 (length a) ++ a ++ s) ≡ little 4 (length a)
  length_first =
      ap (take 4) (append_assoc (little 4 (length a)) a s)
      ∙ take_at (little 4 (length a)) (a ++ s) 4 (length_little 4 (length a))

  module _ (h : length a ≤ most_argument_bytes) where
    pub size_back : number (little 4 (length a)) ≡ length a
    size_back = number_back 4 (length a) (omega arith)

    pub size_sent : size (little 4 (length a) ++ a ++ s) ≡ length a
    size_sent = ap number length_first ∙ size_back

    pub behind_sent : behind (little 4 (length a) ++ a ++ s) ≡ s
    behind_sent =
        ap (λ (k : ℕ). drop (4 + k) (little 4 (length a) ++ a ++ s)) size_sent
        ∙ drop_at (little 4 (length a) ++ a) s (4 + length a) length_front

    pub argument_sent : first_argument (little 4 (length a) ++ a ++ s) ≡ a
    argument_sent =
        ap (λ (k : ℕ). take k (drop 4 (little 4 (length a) ++ a ++ s))) size_sent
        ∙ ap (λ (d : List ℕ). take (length a) (drop 4 d)) (append_assoc (little 4 (length a)) a s)
        ∙ ap (take (length a)) (drop_at (little 4 (length a)) (a ++ s) 4 (length_little 4 (length a)))
        ∙ take_at a s (length a) refl

pub passes : (n i used k : ℕ) → allowed n i k ≡ true → used + k ≤ most_argument_bytes
    → (not (allowed n i k) || ltb most_argument_bytes (used + k)) ≡ false
passes n i used k h f =
    ap (λ (t : Bool). not t || ltb most_argument_bytes (used + k)) h ∙ le-ltb most_argument_bytes (used + k) f

-- the walk goes on behind it
pub walk_sent : (n i used k : ℕ) (a s : List ℕ) → allowed n i (length a) ≡ true → used + length a ≤ most_argument_bytes
    → framed_from n i (suc k) used (little 4 (length a) ++ a ++ s) ≡ framed_from n (suc i) k (used + length a) s
walk_sent n i used k a s h f =
    let l : length a ≤ most_argument_bytes = omega arith in
    let d = little 4 (length a) ++ a ++ s in
    let t : (not (allowed n i (size d)) || ltb most_argument_bytes (used + size d)) ≡ false
    = ap (λ (m : ℕ). not (allowed n i m) || ltb most_argument_bytes (used + m)) (size_sent a s l)
    ∙ passes n i used (length a) h f in
    let one : framed_one n i used d ≡ Whole
    = one_if n i used d ∙ one_whole _ used d (omega (arith, length_sent a s)) t (omega (arith, length_sent a s, size_sent a s l)) in
    from_suc n i k used d
    ∙ ap (λ (g : Framed). if_whole g (framed_from n (suc i) k (used + size d) (behind d))) one
    ∙ ap (λ (m : ℕ). framed_from n (suc i) k (used + m) (behind d)) (size_sent a s l)
    ∙ ap (framed_from n (suc i) k (used + length a)) (behind_sent a s l)
