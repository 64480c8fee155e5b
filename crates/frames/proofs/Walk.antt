-- One argument after another. Assumes nothing.
use mathlib.Core.Path.{◌≡◌, refl, ap, sym, ◌∙◌}
use mathlib.Core.Bool.{Bool, true, false, not, ◌||◌}
use mathlib.Core.List.{List, [], ◌∷◌, ◌++◌}
use Prim.Native.Nat.{ℕ, zero, suc, ◌+◌, ◌-◌, ◌≤◌, ◌<◌, min}
use native.Mathlib.Omega.{arith}
use lib.Dec.{ltb}
use lib.ListN.{length, get_or, take, drop, length-drop, length-take, drop_of_length-le}
use lib.Seq.{length-take-le, take_all, take-take, take-length, drop-drop, drop-nil}
use borrow.Author.Tests.{lt-ltb, le-ltb, ltb-true, ltb-false}
use Rattle.notions.proofs.Tests.{cases, clash, neither}
use Rattle.frames.specs.declared.Framed.{Framed}
use Rattle.frames.specs.declared.Framed.TheVariants.{Needs, Whole, Cut}
use Rattle.frames.specs.Calls.{most_argument_bytes, any, calls, is_call, arguments_of, listed, count, allowed}
use Rattle.frames.specs.Frames.{size, behind, framed_one, if_whole, framed_from, framed, first_argument, skipped}
use Rattle.frames.specs.Frames.{argument}
use Rattle.frames.specs.Promises.{Copies}
use Rattle.frames.specs.Inner as W
use Rattle.frames.specs.Inner.{length_of, row, lengths, allows, framed_if, framed_all}
use Rattle.frames.proofs.Table.{allowed_same}
use Rattle.std.specs.Prelude.{Option, None, Some, map, slice_get}
use Rattle.std.proofs.Common.{rules}
use Rattle.std.proofs.lemmas.List.{drop_more}
use mathlib.Core.Option as M
use mathlib.Core.Option.{none, some}

-- ---- answers

abbrev pub is_whole : Framed → Bool
is_whole (Needs k) = false
is_whole Whole = true
is_whole Cut = false

-- what is not whole is told from what is
pub not_whole : {P : Type 0} (f : Framed) → is_whole f ≡ false → f ≡ Whole → P
not_whole f t e = clash (is_whole f) (ap is_whole e) t

pub is_whole_lem : (f : Framed) → is_whole f ≡ true → f ≡ Whole
is_whole_lem (Needs k) e = clash false e refl
is_whole_lem Whole e = refl
is_whole_lem Cut e = clash false e refl

not_not : (t : Bool) → not t ≡ false → t ≡ true
not_not true e = refl
not_not false e = sym e

-- ---- one argument

-- a sum is over a bound where one part is over what the other leaves
over_left : (m u s : ℕ) → u ≤ m → ltb (m - u) s ≡ ltb m (u + s)
over_left m u s h =
    cases (ltb (m - u) s)
    (λ e. e ∙ sym (lt-ltb m (u + s) (omega (arith, ltb-true (m - u) s e))))
    (λ e. e ∙ sym (le-ltb m (u + s) (omega (arith, ltb-false (m - u) s e))))

module _ (al : Bool) (used : ℕ) (b : List ℕ) where
  pub one_short : length b < 4 → framed_if al used b ≡ Needs (4 - length b)
  unfolding framed_if
  one_short h = simp (lt-ltb (length b) 4 h)

  module _ (h : 4 ≤ length b) where
    pub one_cut : (not al || ltb most_argument_bytes (used + size b)) ≡ true → framed_if al used b ≡ Cut
    unfolding framed_if
    one_cut e = simp (le-ltb (length b) 4 h, e)

    module _ (e : (not al || ltb most_argument_bytes (used + size b)) ≡ false) where
      pub one_part : length b < 4 + size b → framed_if al used b ≡ Needs (4 + size b - length b)
      unfolding framed_if
      one_part l = simp (le-ltb (length b) 4 h, e, lt-ltb (length b) (4 + size b) l)

      pub one_whole : 4 + size b ≤ length b → framed_if al used b ≡ Whole
      unfolding framed_if
      one_whole l = simp (le-ltb (length b) 4 h, e, le-ltb (length b) (4 + size b) l)

-- the same in the words of the code
pub found_short : (l : Option ℕ) (used at : ℕ) (b : List ℕ) → length b - at < 4
    → Needs (4 - (length b - at)) ≡ W.framed_one l used (drop at b)
found_short l used at b h =
    let n : length (drop at b) ≡ length b - at = length-drop at b in
    ap (λ (k : ℕ). Needs (4 - k)) (sym n) ∙ sym (one_short (allows l (size (drop at b))) used (drop at b) (omega (arith, n)))

module _ (l : Option ℕ) (used at s : ℕ) (al : Bool) (b : List ℕ)
    (es : s ≡ size (drop at b)) (ea : al ≡ allows l s) (u : used ≤ most_argument_bytes) (h : 4 ≤ length b - at) where
  left : length (drop at b) ≡ length b - at
  left = length-drop at b

  abbrev here : Bool
  here = allows l (size (drop at b))

  test :
      (not al || ltb (most_argument_bytes - used) s)
      ≡ (not here || ltb most_argument_bytes (used + size (drop at b)))
  test =
      ap (λ (t : Bool). not t || ltb (most_argument_bytes - used) s) ea
      ∙ ap (λ (t : Bool). not (allows l s) || t) (over_left most_argument_bytes used s u)
      ∙ ap (λ (k : ℕ). not (allows l k) || ltb most_argument_bytes (used + k)) es

  pub found_cut : (not al || ltb (most_argument_bytes - used) s) ≡ true → Cut ≡ W.framed_one l used (drop at b)
  found_cut e = sym (one_cut here used (drop at b) (omega (arith, left)) (sym test ∙ e))

  pub found_part : (not al || ltb (most_argument_bytes - used) s) ≡ false → length b - at - 4 < s
      → Needs (s - (length b - at - 4)) ≡ W.framed_one l used (drop at b)
  found_part e r =
      let k : s - (length b - at - 4) ≡ 4 + size (drop at b) - length (drop at b) = omega (arith, left, es) in
      ap Needs k ∙ sym (one_part here used (drop at b) (omega (arith, left)) (sym test ∙ e) (omega (arith, left, es)))

  pub found_whole : (not al || ltb (most_argument_bytes - used) s) ≡ false → s ≤ length b - at - 4
      → Whole ≡ W.framed_one l used (drop at b)
  found_whole e r = sym (one_whole here used (drop at b) (omega (arith, left)) (sym test ∙ e) (omega (arith, left, es)))

-- what a whole argument says
pub record IsWhole (al : Bool) (used : ℕ) (b : List ℕ) : Type 0 where
  pub there : 4 + size b ≤ length b
  pub allows : al ≡ true
  pub few : used + size b ≤ most_argument_bytes

-- one argument is too short for its length, cut, too short for what its length says, or whole
pub one_cases : {P : Type 0} (al : Bool) (used : ℕ) (b : List ℕ)
    → (length b < 4 → framed_if al used b ≡ Needs (4 - length b) → P)
    → (framed_if al used b ≡ Cut → P)
    → (length b < 4 + size b → used + size b ≤ most_argument_bytes
    → framed_if al used b ≡ Needs (4 + size b - length b) → P)
    → (IsWhole al used b → framed_if al used b ≡ Whole → P)
    → P
one_cases al used b f g h k =
    cases (ltb (length b) 4)
    (λ e. let s = ltb-true (length b) 4 e in f s (one_short al used b s))
    (λ e. let l = ltb-false (length b) 4 e in
    cases (not al || ltb most_argument_bytes (used + size b))
    (λ t. g (one_cut al used b l t))
    (λ t. let two = neither (not al) (ltb most_argument_bytes (used + size b)) t in
    let few = ltb-false most_argument_bytes (used + size b) two.1 in
    cases (ltb (length b) (4 + size b))
    (λ q. let s = ltb-true (length b) (4 + size b) q in h s few (one_part al used b l t s))
    (λ q. let s = ltb-false (length b) (4 + size b) q in
    k (record { there = s; allows = not_not al two.0; few = few })
    (one_whole al used b l t s))))

pub one_is_whole : (al : Bool) (used : ℕ) (b : List ℕ) → framed_if al used b ≡ Whole → IsWhole al used b
one_is_whole al used b w =
    one_cases al used b
    (λ h e. not_whole (Needs _) refl (sym e ∙ w))
    (λ e. not_whole Cut refl (sym e ∙ w))
    (λ h f e. not_whole (Needs _) refl (sym e ∙ w))
    (λ r e. r)

-- ---- all arguments, by their lengths

-- the first i arguments are whole, and have `used` bytes together
pub record Walked (b : List ℕ) (ls : List (Option ℕ)) (at used i : ℕ) : Type 0 where
  pub inside : at ≤ length b
  pub few : used ≤ most_argument_bytes
  pub same : framed_all ls 0 (drop 1 b) ≡ framed_all (drop i ls) used (drop at b)

pub walked_none : (b : List ℕ) (ls : List (Option ℕ)) → 1 ≤ length b → Walked b ls 1 0 0
walked_none b ls h = record { inside = h; few = omega arith; same = refl }

pub walked_all : (b : List ℕ) (ls : List (Option ℕ)) (at used i : ℕ) → Walked b ls at used i → length ls ≤ i
    → Whole ≡ framed_all ls 0 (drop 1 b)
unfolding framed_all
walked_all b ls at used i w h =
    sym (w.same ∙ ap (λ (l : List (Option ℕ)). framed_all l used (drop at b)) (drop_of_length-le ls {i = i} h))

all_more : (l : Option ℕ) (ls : List (Option ℕ)) (used : ℕ) (b : List ℕ)
    → framed_all (l ∷ ls) used b ≡ if_whole (W.framed_one l used b) (framed_all ls (used + size b) (behind b))
unfolding framed_all
all_more l ls used b = refl

stays : (one f : Framed) → (one ≡ Whole → ⊥) → one ≡ if_whole one f
stays (Needs k) f e = refl
stays Whole f e = absurd (e refl)
stays Cut f e = refl

module _ (b : List ℕ) (ls : List (Option ℕ)) (at used i : ℕ) (one : Framed)
    (w : Walked b ls at used i) (h : i < length ls)
    (e : one ≡ W.framed_one (get_or ls i None) used (drop at b)) where
  abbrev l : Option ℕ
  l = get_or ls i None

  abbrev next : Framed
  next = framed_all (drop (i + 1) ls) (used + size (drop at b)) (behind (drop at b))

  walked_on : framed_all ls 0 (drop 1 b) ≡ if_whole one next
  walked_on =
      w.same
      ∙ ap (λ (k : List (Option ℕ)). framed_all k used (drop at b)) (drop_more ls i None h)
      ∙ all_more l (drop (i + 1) ls) used (drop at b)
      ∙ ap (λ (f : Framed). if_whole f next) (sym e)

  pub walked_few : (s : ℕ) → one ≡ Whole → s ≡ size (drop at b) → used + s ≤ most_argument_bytes
  walked_few s t es = omega (arith, (one_is_whole (allows l (size (drop at b))) used (drop at b) (sym e ∙ t)).few, es)

  pub walked_stop : (one ≡ Whole → ⊥) → one ≡ framed_all ls 0 (drop 1 b)
  walked_stop t = stays one next t ∙ sym walked_on

  pub walked_more : (s at' : ℕ) → one ≡ Whole → s ≡ size (drop at b) → at' ≤ length b
      → drop at' b ≡ behind (drop at b)
      → Walked b ls at' (used + s) (i + 1)
  walked_more s at' t es k d =
      record {
        inside = k;
        few = walked_few s t es;
        same = walked_on ∙ ap (λ (f : Framed). if_whole f next) t
            ∙ ap (λ (x : List ℕ). framed_all (drop (i + 1) ls) (used + size (drop at b)) x) (sym d)
            ∙ ap (λ (k : ℕ). framed_all (drop (i + 1) ls) (used + k) (drop at' b)) (sym es);
      }

-- ---- all arguments of a call

pub one_if : (n i used : ℕ) (b : List ℕ) → framed_one n i used b ≡ framed_if (allowed n i (size b)) used b
unfolding framed_one framed_if
one_if n i used b = refl

pub from_suc : (n i k used : ℕ) (b : List ℕ)
    → framed_from n i (suc k) used b ≡ if_whole (framed_one n i used b) (framed_from n (suc i) k (used + size b) (behind b))
unfolding framed_from
from_suc n i k used b = refl

-- the lengths `ls` are those of the arguments of call n from i on
all_from : (n i : ℕ) (ls : List ℕ) (used : ℕ) (b : List ℕ)
    → ((j : ℕ) → get_or (arguments_of (get_or calls n none)) (i + j) any ≡ get_or ls j any)
    → framed_all (map length_of ls) used b ≡ framed_from n i (length ls) used b
unfolding framed_all framed_from
all_from n i [] used b h = refl
all_from n i (l ∷ ls) used b h =
    let z : i ≡ i + 0 = omega arith in
    let here : get_or (arguments_of (get_or calls n none)) i any ≡ l
    = ap (λ (k : ℕ). get_or (arguments_of (get_or calls n none)) k any) z ∙ h 0 in
    let one : W.framed_one (length_of l) used b ≡ framed_one n i used b
    = ap (λ (t : Bool). framed_if t used b) (sym (allowed_same n i l (size b) here)) ∙ sym (one_if n i used b) in
    ap (λ (f : Framed). if_whole f (framed_all (map length_of ls) (used + size b) (behind b))) one
    ∙ ap (if_whole (framed_one n i used b)) (all_from n (suc i) ls (used + size b) (behind b)
    (λ j. let s : suc i + j ≡ i + suc j = omega arith in
    ap (λ (k : ℕ). get_or (arguments_of (get_or calls n none)) k any) s ∙ h (suc j)))

-- ---- the place of an argument

skipped_nil : (i : ℕ) → skipped i [] ≡ []
unfolding skipped
skipped_nil zero = refl
skipped_nil (suc i) = ap (skipped i) (drop-nil (4 + size [])) ∙ skipped_nil i

pub record Skipped (b : List ℕ) (i at j : ℕ) : Type 0 where
  pub inside : at ≤ length b
  pub same : skipped i (drop 1 b) ≡ skipped (i - j) (drop at b)

pub skipped_none : (b : List ℕ) (i : ℕ) → Skipped b i (min (length b) 1) 0
skipped_none [] i = let e : i ≡ i - 0 = omega arith in record { inside = omega arith; same = ap (λ (k : ℕ). skipped k []) e }
skipped_none (x ∷ b) i =
    let e : i ≡ i - 0 = omega arith in
    let m : 1 ≡ min (length (x ∷ b)) 1 = omega arith in
    record { inside = omega arith; same = ap (λ (k : ℕ). skipped k b) e ∙ ap (λ (k : ℕ). skipped (i - 0) (drop k (x ∷ b))) m }

pub skipped_more : (b : List ℕ) (i at j at' : ℕ) → Skipped b i at j → j < i → at' ≤ length b
    → drop at' b ≡ behind (drop at b) → Skipped b i at' (j + 1)
unfolding skipped
skipped_more b i at j at' s h l d =
    let k : i - j ≡ suc (i - (j + 1)) = omega arith in
    record {
      inside = l;
      same = s.same ∙ ap (λ (x : ℕ). skipped x (drop at b)) k ∙ ap (skipped (i - (j + 1))) (sym d);
    }

-- it is there, or the bytes end before
pub skipped_there : (b : List ℕ) (i at j : ℕ) → Skipped b i at j → i ≤ j
    → (at ≤ length b) × (skipped i (drop 1 b) ≡ drop at b)
unfolding skipped
skipped_there b i at j s h =
    let z : i - j ≡ 0 = omega arith in
    (s.inside, s.same ∙ ap (λ (k : ℕ). skipped k (drop at b)) z)

pub skipped_end : (b : List ℕ) (i at j : ℕ) → Skipped b i at j → length b ≤ at
    → (at ≤ length b) × (skipped i (drop 1 b) ≡ drop at b)
skipped_end b i at j s h =
    let n : drop at b ≡ [] = drop_of_length-le b {i = at} h in
    (s.inside, s.same ∙ ap (skipped (i - j)) n ∙ skipped_nil (i - j) ∙ sym n)

-- ---- a call

pub framed_none : (b : List ℕ) → None ≡ slice_get b 0 → Needs 1 ≡ framed b
unfolding framed
framed_none [] h = refl
framed_none (x ∷ b) h = search rules

unlisted_row : (c : M.Option (List ℕ)) → row c ≡ None → is_call c ≡ false
unlisted_row none h = refl
unlisted_row (some ls) h = search rules

pub framed_unlisted : (b : List ℕ) (n : ℕ) → Some n ≡ slice_get b 0 → None ≡ lengths n → Cut ≡ framed b
unfolding framed listed
framed_unlisted [] n e h = search rules
framed_unlisted (x ∷ b) n e h =
    let s : n ≡ x = search rules in
    sym (simp (unlisted_row (get_or calls x none) (ap lengths (sym s) ∙ sym h)))

listed_row : (c : M.Option (List ℕ)) (ls : List (Option ℕ)) → row c ≡ Some ls
    → (is_call c ≡ true) × (ls ≡ map length_of (arguments_of c))
listed_row none ls h = search rules
listed_row (some args) ls h = search rules

pub framed_listed : (b : List ℕ) (n : ℕ) (ls : List (Option ℕ)) → Some n ≡ slice_get b 0 → Some ls ≡ lengths n
    → framed_all ls 0 (drop 1 b) ≡ framed b
unfolding framed listed count
framed_listed [] n ls e h = search rules
framed_listed (x ∷ b) n ls e h =
    let s : n ≡ x = search rules in
    let c = get_or calls x none in
    let t = listed_row c ls (ap lengths (sym s) ∙ sym h) in
    ap (λ (k : List (Option ℕ)). framed_all k 0 b) t.1
    ∙ all_from x 0 (arguments_of c) 0 b
    (λ j. let z : 0 + j ≡ j = omega arith in ap (λ (k : ℕ). get_or (arguments_of c) k any) z)
    ∙ sym (simp t.0)

-- ---- an argument

min_first : (f a b : ℕ) → f ≡ min a b → f ≤ a
min_first f a b e = omega arith

length_first : (f n : ℕ) (t : List ℕ) → f ≤ n → n ≤ length t → length (take f t) ≡ f
length_first f n t h l = length-take-le f t (omega arith)

-- the first s of the bytes t, cut to a room
fit : (t room : List ℕ) (s f : ℕ) → s ≤ length t → f ≡ min s (length room)
    → (take (length room) (take s t) ≡ take f t) × (drop s room ≡ drop f room)
fit t room s f h e =
    cases (ltb s (length room))
    (λ l. let p : s ≡ f = omega (arith, ltb-true s (length room) l) in (
      take_all (length room) (take s t) (rw length-take (omega (arith, ltb-true s (length room) l)))
          ∙ ap (λ (k : ℕ). take k t) p,
      ap (λ (k : ℕ). drop k room) p,
    ))
    (λ l. let q : length room ≤ s = ltb-false s (length room) l in
    let p : length room ≡ f = omega arith in (
      take-take (length room) s t q ∙ ap (λ (k : ℕ). take k t) p,
      drop_of_length-le room {i = s} q ∙ sym (drop_of_length-le room {i = f} (omega arith)),
    ))

module _ (b : List ℕ) (i at k s size' : ℕ)
    (place : (at ≤ length b) × (skipped i (drop 1 b) ≡ drop at b))
    (ek : k ≡ min (length b - at) 4)
    (es : s ≡ size (drop at b))
    (ez : size' ≡ min s (length b - (at + k))) where
  abbrev t : List ℕ
  t = drop (at + k) b

  length_t : length t ≡ length b - (at + k)
  length_t = length-drop (at + k) b

  behind_length : drop 4 (drop at b) ≡ t
  behind_length =
      drop-drop 4 at b ∙ cases (ltb (length b - at) 4)
      (λ l. let q = ltb-true (length b - at) 4 l in
      drop_of_length-le b {i = at + 4} (omega arith) ∙ sym (drop_of_length-le b {i = at + k} (omega arith)))
      (λ l. let q : 4 ≡ k = omega (arith, ltb-false (length b - at) 4 l) in ap (λ (j : ℕ). drop (at + j) b) q)

  is_argument : argument b i ≡ take size' t
  is_argument =
      ap first_argument place.1
      ∙ ap (take (size (drop at b))) behind_length
      ∙ ap (λ (n : ℕ). take n t) (sym es)
      ∙ cases (ltb s (length t))
      (λ l. let q : s ≡ size' = omega (arith, length_t, ltb-true s (length t) l) in ap (λ (n : ℕ). take n t) q)
      (λ l. let q = ltb-false s (length t) l in take_all s t q ∙ sym (take_all size' t (omega (arith, length_t, q))))

  pub stands : take (at + k + size' - (at + k)) t ≡ argument b i
  stands = let q : at + k + size' - (at + k) ≡ size' = omega arith in ap (λ (n : ℕ). take n t) q ∙ sym is_argument

-- what is copied of it
pub copied : (b : List ℕ) (i : ℕ) (room given slice : List ℕ) (f : ℕ)
    → given ≡ argument b i → f ≡ min (length given) (length room) → slice ≡ take f given
    → Copies b i room (slice ++ drop f room) f
copied b i room given slice f g ef sl =
    let cut = fit given room (length given) f (omega arith) ef in
    let ls : length slice ≡ f
    = ap length sl ∙ length_first f (length given) given (min_first f (length given) (length room) ef) (omega arith) in
    let taken : take (length room) (argument b i) ≡ slice
    = ap (take (length room)) (sym g ∙ sym (take-length given)) ∙ cut.0 ∙ sym sl in
    record {
      answered = sym ls ∙ ap length (sym taken);
      room_left = ap (λ (x : List ℕ). x ++ drop f room) (sym taken)
          ∙ ap (λ (x : List ℕ). take (length room) (argument b i) ++ x)
          (sym cut.1 ∙ ap (λ (x : List ℕ). drop (length x) room) g);
    }
