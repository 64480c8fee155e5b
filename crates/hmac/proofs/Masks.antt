-- A block of which each byte is masked. Assumes nothing.
use mathlib.Core.Path.{◌≡◌, refl, ap, subst, ◌∙◌}
use mathlib.Core.List.{List, [], ◌∷◌, ◌++◌, append-nil}
use Prim.Native.Nat.{ℕ, zero, suc, ◌+◌, ◌<◌}
use native.Mathlib.Numerals.{add-one}
use native.Mathlib.Omega.{arith}
use lib.Bits.{bit_xor}
use lib.ListN.{length, get_or, take, drop, set, drop_of_length-le}
use lib.Seq.{take-suc, drop-cons, set_at, get_or_at, take-length, drop-length, append_snoc, length-take-le}
use denote.Param.Members.{Mut}
use Rattle.std.specs.Fn.{Called}
use Rattle.std.specs.Array.{MapsFrom, IsMapOf}
use Rattle.hmac.specs.Hmac.{xored}

-- ---- by a loop, byte by byte

length_xored : (x : ℕ) (l : List ℕ) → length (xored x l) ≡ length l
unfolding xored
length_xored x [] = refl
length_xored x (b ∷ l) = ap suc (length_xored x l)

xored_append : (x : ℕ) (a b : List ℕ) → xored x (a ++ b) ≡ xored x a ++ xored x b
unfolding xored
xored_append x [] b = refl
xored_append x (y ∷ a) b = ap (λ (l : List ℕ). bit_xor y x ∷ l) (xored_append x a b)

xored_one : (x b : ℕ) → xored x (b ∷ []) ≡ bit_xor b x ∷ []
unfolding xored
xored_one x b = refl

pub mask_none : (x : ℕ) (l : List ℕ) → l ≡ xored x (take 0 l) ++ drop 0 l
unfolding xored
mask_none x l = refl

pub mask_more : (x : ℕ) (l b : List ℕ) (i : ℕ) → i < length l → b ≡ xored x (take i l) ++ drop i l
    → set b i (bit_xor (get_or b i 0) x) ≡ xored x (take (i + 1) l) ++ drop (i + 1) l
mask_more x l b i h e =
    let p : List ℕ = xored x (take i l) in
    let a : ℕ = bit_xor (get_or l i 0) x in
    let f : length p ≡ i = length_xored x (take i l) ∙ length-take-le i l (omega arith) in
    let d : drop i l ≡ get_or l i 0 ∷ drop (suc i) l = drop-cons l i 0 h in
    let t : take (suc i) l ≡ take i l ++ (get_or l i 0 ∷ []) = take-suc l i 0 h in
    rw add-one
    (cc (
      get_or_at p (get_or l i 0) (drop (suc i) l) 0 i f,
      set_at p (get_or l i 0) (drop (suc i) l) a i f,
      append_snoc p a
          (drop (suc i) l),
      xored_append x (take i l) (get_or l i 0 ∷ []),
      xored_one x (get_or l i 0),
    ))

pub mask_whole : (x : ℕ) (l b : List ℕ) (i : ℕ) → i ≡ length l → b ≡ xored x (take i l) ++ drop i l → b ≡ xored x l
mask_whole x l b i ei e = cc (take-length l, drop-length l, append-nil (xored x l))

-- ---- by the library's `map`

-- calls of a closure that stays as it is and gives each byte XOR x
module _ {F : Type 0} (g : Mut F (ℕ × Unit {0}) ℕ) (f : F) (x : ℕ)
    (same : (b r : ℕ) (q : F) → Called g f (b, tt) r q → q ≡ f)
    (gives : (b r : ℕ) (q : F) → Called g f (b, tt) r q → r ≡ bit_xor b x) where
  masked_from : (l m : List ℕ) (i n : ℕ) → i + n ≡ length l → length m ≡ length l → MapsFrom g f l m i n
      → drop i m ≡ xored x (drop i l)
  unfolding xored
  masked_from l m i zero e h p =
      let a : drop i l ≡ [] = drop_of_length-le l (omega arith) in
      let b : drop i m ≡ [] = drop_of_length-le m (omega arith) in
      cc
  masked_from l m i (suc n) e h (q, b, r, eb, er, k, p) =
      let p' : MapsFrom g f l m (i + 1) n = subst (λ (u : F). MapsFrom g u l m (i + 1) n) (same b r q k) p in
      let t : drop (i + 1) m ≡ xored x (drop (i + 1) l) = masked_from l m (i + 1) n (omega arith) h p' in
      let a : get_or l i 0 ≡ b = eb.1 0 in
      let v : get_or m i 0 ≡ bit_xor b x = er.1 0 ∙ gives b r q k in
      cc (drop-cons l i 0 (omega arith), drop-cons m i 0 (omega arith), add-one i, a, v, t)

pub masked : {F : Type 0} {g : Mut F (ℕ × Unit {0}) ℕ} {f : F} {l m : List ℕ} {n : ℕ} (x : ℕ) → n ≡ length l
    → IsMapOf g f l m n
    → ((b r : ℕ) (q : F) → Called g f (b, tt) r q → q ≡ f)
    → ((b r : ℕ) (q : F) → Called g f (b, tt) r q → r ≡ bit_xor b x) → m ≡ xored x l
masked {F} {g} {f} {l} {m} {n} x e p same gives =
    masked_from g f x same gives l m 0 n (omega (arith, e)) (p.long ∙ e) p.each
