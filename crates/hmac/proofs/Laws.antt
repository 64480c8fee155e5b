-- The laws of HMAC, for readers and for the crates above. Assumes nothing.
use mathlib.Core.Path.{◌≡◌}
use mathlib.Core.Bool.{false}
use mathlib.Core.List.{List}
use Prim.Native.Nat.{ℕ}
use native.Mathlib.Omega.{arith}
use borrow.Author.Tests.{le-ltb}
use lib.ListN.{length}
use Rattle.notions.specs.Bytes.{Bytes}
use Rattle.refusal.specs.declared.Refusal.{Refusal}
use Rattle.std.specs.Prelude.{Result, Ok}
use Rattle.sha256_digest.proofs.Laws.{length_sha256}
use Rattle.sha256.proofs.Laws.{gives_bytes}
use Rattle.sha256_digest.proofs.Bytes.{bytes_sha256}
use Rattle.hmac.specs.Hmac.{hmac}
use Rattle.hmac.specs.Promises.{most, long, Macs}

pub length_hmac : (k m : List ℕ) → length (hmac k m) ≡ 32
unfolding hmac
length_hmac k m = length_sha256 _

pub bytes_hmac : (k m : List ℕ) → Bytes (hmac k m)
unfolding hmac
bytes_hmac k m = bytes_sha256 _

-- a MAC can be a key or a message
pub hmac_short : (k m : List ℕ) → long (hmac k m) ≡ false
hmac_short k m = le-ltb most (length (hmac k m)) (omega (arith, length_hmac k m))

-- what `mac` answers where nothing is refused
pub mac_bytes : (k m : List ℕ) (r : Result (List ℕ) Refusal) → long k ≡ false → long m ≡ false → Macs k m r → r ≡ Ok (hmac k m)
mac_bytes k m r p q e = gives_bytes e (simp (p, q))
