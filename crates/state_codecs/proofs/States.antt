-- The words of a state, read from bytes. Assumes nothing.
use mathlib.Core.Path.{◌≡◌, ap, subst, ◌∙◌}
use mathlib.Core.List.{List}
use Prim.Native.Nat.{ℕ, zero, suc, ◌+◌, ◌*◌}
use native.Mathlib.Numerals.{add-one}
use native.Mathlib.Omega.{arith}
use lib.ListN.{length, drop}
use lib.Seq.{drop-cons, drop-drop}
use Rattle.std.specs.Array.{IsFromFnResultFrom}
use Rattle.std.specs.Fn.{Called}
use denote.Param.Members.{Mut}
use Rattle.std.proofs.lemmas.List.{drop_all}
use Rattle.octets.specs.Numbers.{number_at}
use Rattle.state_codecs.specs.States.{words_of}

-- the words from number i on, each made by a call that leaves f as it was
pub words_made : {F : Type 0} (g : Mut F (ℕ × Unit {0}) ℕ) (f : F) (b : List ℕ)
    → ((i y : ℕ) (q : F) → Called g f (i, tt) y q → (y ≡ number_at b (4 * i) 4) × (q ≡ f))
    → (ws : List ℕ) (i n : ℕ) → length ws ≡ i + n → IsFromFnResultFrom g f ws i n → drop i ws ≡ words_of n (drop (4 * i) b)
unfolding words_of
words_made g f b s ws i zero l h = drop_all i ws (omega arith)
words_made g f b s ws i (suc n) l (q, y, e, c, h) =
    let (v, stays) = s i y q c in
    let more : drop (i + 1) ws ≡ words_of n (drop (4 * (i + 1)) b) =
    words_made g f b s ws (i + 1) n (omega arith) (subst (λ p. IsFromFnResultFrom g p ws (i + 1) n) stays h) in
    let d : drop 4 (drop (4 * i) b) ≡ drop (4 * (i + 1)) b = drop-drop 4 (4 * i) b ∙ ap (λ (j : ℕ). drop j b) (omega arith) in
    cc (drop-cons ws i 0 (omega arith), e.1 0, v, more, d, ap (λ (j : ℕ). drop j ws) (add-one i))
