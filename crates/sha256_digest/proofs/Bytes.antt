-- A digest is bytes. Assumes nothing.
use mathlib.Core.List.{List}
use Prim.Native.Nat.{ℕ, zero, suc, ◌*◌, ◌/◌, ◌%◌, ◌^◌, ◌<◌}
use native.Mathlib.Omega.{arith}
use lib.ListN.{get_or}
use Rattle.notions.specs.Bytes.{Bytes}
use Rattle.notions.proofs.Bytes.{bytes_append}
use Rattle.sha256_block.specs.Words.{bytes}
use Rattle.sha256_block.specs.Constants.{H}
use Rattle.sha256_block.specs.Block.{whole}
use Rattle.sha256_digest.specs.Hash.{padded, out, sha256}

low_byte : (x : ℕ) → x % 2 ^ 8 < 256
low_byte x = omega arith

bytes_bytes : (n x : ℕ) → Bytes (bytes n x)
unfolding bytes
bytes_bytes zero x i = omega arith
bytes_bytes (suc n) x zero = low_byte (x / 2 ^ (n * 8))
bytes_bytes (suc n) x (suc i) = bytes_bytes n x i

bytes_out : (s : List ℕ) (n : ℕ) → Bytes (out s n)
unfolding out
bytes_out s zero i = omega arith
bytes_out s (suc n) i = bytes_append (out s n) (bytes 4 (get_or s n 0)) (bytes_out s n) (bytes_bytes 4 (get_or s n 0)) i

pub bytes_sha256 : (m : List ℕ) → Bytes (sha256 m)
unfolding sha256
bytes_sha256 m = bytes_out (whole H (padded m)) 8
