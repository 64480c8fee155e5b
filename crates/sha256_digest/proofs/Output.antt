-- A turn of the loop that writes words as bytes. Assumes nothing.
use Rattle.std.proofs.Common.{◌≡◌, ℕ, ◌+◌, ◌-◌, ◌*◌, ◌<◌, List, ◌++◌, length, get_or, take, ap, ◌∙◌, add-one, arith}
use Rattle.std.proofs.Math.Nat.{div-one}
use Rattle.std.proofs.lemmas.Slice.{overwrites, take-put_mid}
use Rattle.std.specs.Int.{w32, w64, to_be_bytes}
use borrow.Rule.Slice.PartMut.{put_mid}
use Rattle.sha256_block.specs.Words.{bytes}
use Rattle.sha256_digest.specs.Hash.{out}

pub be_4 : (x : ℕ) → to_be_bytes w32 x ≡ bytes 4 x
unfolding bytes
be_4 x = rw div-one

pub be_8 : (x : ℕ) → to_be_bytes w64 x ≡ bytes 8 x
unfolding bytes
be_8 x = rw div-one

out_next : (s : List ℕ) (i : ℕ) → out s (i + 1) ≡ out s i ++ bytes 4 (get_or s i 0)
unfolding out
out_next s i = rw add-one

pub out_more : (s d p b : List ℕ) (i : ℕ) → i < 8 → length d ≡ 32 → take (i * 4) d ≡ out s i → p ≡ b → b ≡ to_be_bytes w32 (get_or s i 0)
    → (length (put_mid (i * 4) (i * 4 + 4 - i * 4) d p) ≡ 32) × (take ((i + 1) * 4) (put_mid (i * 4) (i * 4 + 4 - i * 4) d p) ≡ out s (i + 1))
out_more s d p b i h l inv ep eb =
    let lp : length p ≡ 4 = ap length (ep ∙ eb) in (
      search (arith, overwrites),
      take-put_mid (i * 4) (i * 4 + 4 - i * 4) d p ((i + 1) * 4) (omega arith) (omega arith) ∙ cc (out_next s i, be_4 (get_or s i 0)),
    )
