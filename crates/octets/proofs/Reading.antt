-- Bytes read as numbers. Assumes nothing.
use Rattle.std.specs.Prelude.{◌≡◌, List, [], ◌∷◌, ◌++◌, ℕ, suc, ◌+◌, ◌-◌, ◌*◌, ◌^◌, ◌≤◌, ◌<◌, min, length, take, drop, get_or}
use Rattle.std.specs.List.{push}
use Rattle.std.specs.Option.{unwrap_or}
use Rattle.std.specs.Slice.{IsGetRangeResult}
use Rattle.std.proofs.Common.{Bor, Option, None, Some, inl, inr, refl, ap, sym, ◌∙◌, arith}
use Rattle.std.proofs.lemmas.List.{append-nil, append_assoc, length-append, length-take, length-drop, take_all, take_min, drop_all}
use Rattle.std.proofs.Math.Nat.{one-le-pow, pow-succ', pow-le-pow_right}
use Rattle.std.proofs.Math.Seq.{get_or-append_seam}
use Rattle.notions.specs.Bytes.{Bytes}
use Rattle.octets.specs.Numbers.{number, number_at, number_bytes}

-- of the bytes l the last ones are read, n is their number, and r stands before them
pub record ReadBehind (l r : List ℕ) (n : ℕ) : Type 0 where
  pub read : List ℕ
  pub whole : l ≡ r ++ read
  pub value : n ≡ number read
  pub small : n < 256 ^ length read

pub read_none : (l : List ℕ) → ReadBehind l l 0
unfolding number
read_none l = record {
  read = [];
  whole = sym (append-nil l);
  value = refl;
  small = omega arith;
}

-- the next byte, which fits if fewer than eight are read
whole_next : (l r s : List ℕ) (n b : ℕ) (p : ReadBehind l r n) → r ≡ push s b → l ≡ s ++ b ∷ p.read
whole_next l r s n b p e = p.whole ∙ ap (λ (x : List ℕ). x ++ p.read) e ∙ append_assoc s (b ∷ []) p.read

next_byte : (l r s : List ℕ) (n b : ℕ) → ReadBehind l r n → Bytes l → r ≡ push s b → b < 256
next_byte l r s n b p h e =
    let a : get_or l (length s) 0 ≡ b = rw (whole_next l r s n b p e) (get_or-append_seam s b p.read 0) in
    omega (arith, h (length s))

pub fits_more : (l r s : List ℕ) (n b : ℕ) → ReadBehind l r n → Bytes l → length l ≤ number_bytes → r ≡ push s b
    → 256 * n + b < 2 ^ 64
fits_more l r s n b p h m e =
    let k : length l ≡ length s + 1 + length p.read = rw (p.whole, e, length-append, length-append) refl in
    let q : 256 ^ length p.read ≤ 256 ^ 7 =
    pow-le-pow_right {n = 256} (omega arith) {i = length p.read} {j = 7} (omega arith) in
    omega (arith, p.small, next_byte l r s n b p h e)

pub read_more : (l r s : List ℕ) (n b : ℕ) → ReadBehind l r n → Bytes l → r ≡ push s b → ReadBehind l s (256 * n + b)
unfolding number
read_more l r s n b p h e =
    let q : 256 ^ suc (length p.read) ≡ 256 * 256 ^ length p.read = pow-succ' 256 (length p.read) in
    record {
      read = b ∷ p.read;
      whole = whole_next l r s n b p e;
      value = omega (arith, p.value);
      small = rw q (omega (arith, p.small, next_byte l r s n b p h e));
    }

256-pow : (k : ℕ) → 0 < 256 ^ k
256-pow k = one-le-pow k 256 (omega arith)

-- the bytes from a place on, as many of them as there are, and k of those
pub bytes_from : (b : List ℕ) (from : ℕ) (o : Option (Bor (List ℕ))) (d : Bor (List ℕ))
    → IsGetRangeResult b from (length b) o → d.now ≡ [] → (unwrap_or o d).now ≡ drop from b
bytes_from b from None d (inl h, s) e = e ∙ sym (drop_all from b (omega arith))
bytes_from b from None d (inr h, s) e = absurd (omega arith)
bytes_from b from (Some x) d ((l, h, v, n), s) e = v ∙ take_all (length b - from) (drop from b) (simp length-drop (omega arith))

pub read_part : (b y : List ℕ) (from k j r : ℕ) → y ≡ drop from b → j ≡ min k (length y)
    → (r ≡ number (take j y)) × (r < 256 ^ length (take j y))
    → (r ≡ number_at b from k) × (r < 256 ^ k)
read_part b y from k j r ey ej (v, s) =
    let e : take j y ≡ take k (drop from b) = ap (λ (i : ℕ). take i y) ej ∙ take_min k y ∙ ap (λ (l : List ℕ). take k l) ey in
    let n : length (take j y) ≤ k = simp length-take (omega arith) in
    let p : 256 ^ length (take j y) ≤ 256 ^ k = pow-le-pow_right {n = 256} (omega arith) {i = length (take j y)} {j = k} n in
    (v ∙ ap number e, omega (arith, s, p))

-- fewer than k bytes are left, or k
pub read_short : (b y : List ℕ) (from k r : ℕ) → y ≡ drop from b → length y < k → (r ≡ number y) × (r < 256 ^ length y)
    → (r ≡ number_at b from k) × (r < 256 ^ k)
read_short b y from k r ey l q =
    let t : take (length y) y ≡ y = take_all (length y) y (omega arith) in
    read_part b y from k (length y) r ey (omega arith) (rw t q)

pub read_all : (b y : List ℕ) (from k r : ℕ) → y ≡ drop from b → k ≤ length y
    → (r ≡ number (take k y)) × (r < 256 ^ length (take k y))
    → (r ≡ number_at b from k) × (r < 256 ^ k)
read_all b y from k r ey l q = read_part b y from k k r ey (omega arith) q
