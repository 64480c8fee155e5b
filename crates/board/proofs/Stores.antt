-- Bytes stored one after another: what then stands there, and everywhere else. Assumes nothing.
use mathlib.Core.Path.{◌≡◌, refl, sym, ap, ◌∙◌}
use mathlib.Core.Logic.{◌≢◌, ◌⊎◌, inl, inr}
use mathlib.Core.List.{List, [], ◌∷◌, ◌++◌, append_assoc}
use Prim.Native.Nat.{ℕ, zero, suc, ◌+◌, ◌≤◌, ◌<◌, ◌-◌}
use native.Mathlib.Nat.{add-zero, not-suc-le-zero, le_of_suc-le-suc}
use native.Mathlib.Omega.{arith}
use lib.ListN.{length, get_or, take, drop, set, length-take, length-drop}
use lib.Seq.{sets, length-sets, sets-eq, get_or-set_other, length-take-le, take_at, drop_at, get_or-take, get_or-drop}
use lib.Seq.{ext_get_or}
use Rattle.notions.specs.Bytes.{Bytes}
use Rattle.notions.proofs.Bytes.{bytes_take, bytes_drop}
use Rattle.board.specs.Memory.{bytes_at}

-- ---- what is read

pub byte_read : (l : List ℕ) (a n i : ℕ) → i < n → get_or (bytes_at a n l) i 0 ≡ get_or l (a + i) 0
byte_read l a n i h = get_or-take n (drop a l) i 0 h ∙ get_or-drop a l i 0

-- memories of one length that agree at n addresses from a on have the same bytes there
pub bytes_agree : (x y : List ℕ) (a n : ℕ) → length x ≡ length y
    → ((i : ℕ) → i < n → get_or x (a + i) 0 ≡ get_or y (a + i) 0)
    → bytes_at a n x ≡ bytes_at a n y
bytes_agree x y a n e f =
    ext_get_or 0 (bytes_at a n x) (bytes_at a n y)
    (simp (length-take, length-drop, e))
    (λ i h.
    let hn : i < n = omega (arith, length-take n (drop a x)) in
    byte_read x a n i hn ∙ f i hn ∙ sym (byte_read y a n i hn))

-- where the same bytes are read, each is the same
pub read_same : (x y : List ℕ) (a n : ℕ) → bytes_at a n x ≡ bytes_at a n y → (k : ℕ) → a ≤ k → k < a + n
    → get_or x k 0 ≡ get_or y k 0
read_same x y a n e k p q =
    let i : ℕ = k - a in
    let s : a + i ≡ k = omega arith in
    let h : i < n = omega arith in
    rw (← s) (sym (byte_read x a n i h) ∙ ap (λ (v : List ℕ). get_or v i 0) e ∙ byte_read y a n i h)

-- bytes among those read
pub read_inside : (l : List ℕ) (a n b m : ℕ) → b + m ≤ n → bytes_at (a + b) m l ≡ bytes_at b m (bytes_at a n l)
read_inside l a n b m h =
    ext_get_or 0 (bytes_at (a + b) m l) (bytes_at b m (bytes_at a n l))
    (simp (length-take, length-drop) (omega arith))
    (λ i g.
    let p : i < m = omega (arith, length-take m (drop (a + b) l)) in
    let s : a + b + i ≡ a + (b + i) = omega arith in
    byte_read l (a + b) m i p
    ∙ ap (λ (k : ℕ). get_or l k 0) s
    ∙ sym (byte_read l a n (b + i) (omega arith))
    ∙ sym (byte_read (bytes_at a n l) b m i p))

-- ---- what is stored

-- address k is not among n addresses from a on
abbrev pub Off : ℕ → ℕ → ℕ → Type 0
Off a n k = (k < a) ⊎ (a + n ≤ k)

-- one byte more
pub sets_more : (l : List ℕ) (a : ℕ) (v : List ℕ) (i : ℕ) → i < length v
    → sets l a (take (suc i) v) ≡ set (sets l a (take i v)) (a + i) (get_or v i 0)
sets_more l a [] i h = absurd (not-suc-le-zero h)
sets_more l a (x ∷ v) zero h = rw add-zero refl
sets_more l a (x ∷ v) (suc i) h =
    let e : a + suc i ≡ suc a + i = omega arith in
    rw e (sets_more (set l a x) (suc a) v i (le_of_suc-le-suc h))

-- what is stored is read again
pub stored_there : (l : List ℕ) (a n : ℕ) (v : List ℕ) → length v ≡ n → a + n ≤ length l → bytes_at a n (sets l a v) ≡ v
stored_there l a n v e h =
    let r : List ℕ = drop (a + length v) l in
    ap (bytes_at a n) (sets-eq v l a (omega arith) ∙ append_assoc (take a l) v r)
    ∙ ap (take n) (drop_at (take a l) (v ++ r) a (length-take-le a l (omega arith)))
    ∙ take_at v r n e

pub stored_off : (l : List ℕ) (a : ℕ) (v : List ℕ) (k : ℕ) → Off a (length v) k → get_or (sets l a v) k 0 ≡ get_or l k 0
stored_off l a [] k o = refl
stored_off l a (x ∷ v) k o =
    let n : k ≢ a = λ e. elim o [ inl h ↦ omega arith | inr h ↦ omega arith ] in
    stored_off (set l a x) (suc a) v k (elim o [ inl h ↦ inl (omega arith) | inr h ↦ inr (omega arith) ])
    ∙ get_or-set_other l a k x 0 n

-- bytes elsewhere are read as before
pub stored_apart : (l : List ℕ) (a : ℕ) (v : List ℕ) (b n : ℕ) → (b + n ≤ a) ⊎ (a + length v ≤ b)
    → bytes_at b n (sets l a v) ≡ bytes_at b n l
stored_apart l a v b n o =
    bytes_agree (sets l a v) l b n (length-sets l a v)
    (λ i h. stored_off l a v (b + i) (elim o [ inl p ↦ inl (omega arith) | inr p ↦ inr (omega arith) ]))

-- ---- bytes stay bytes

pub bytes_read : (l : List ℕ) (a n : ℕ) → Bytes l → Bytes (bytes_at a n l)
bytes_read l a n p = bytes_take n (drop a l) (bytes_drop a l p)
