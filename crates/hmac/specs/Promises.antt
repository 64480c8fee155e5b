-- What `mac` promises, for all inputs. Assumes nothing.
use Rattle.std.specs.Prelude.{Bool, ◌||◌, List, ℕ, ltb, length, Result}
use Rattle.refusal.specs.declared.Refusal.{Refusal}
use Rattle.sha256.specs.Promises.{Gives}
use Rattle.hmac.specs.Hmac.{hmac}

-- HMAC takes a key and a message of 0 to 65,536 bytes each
abbrev pub most : ℕ
most = 65536

-- l is too long
abbrev pub long : List ℕ → Bool
long l = ltb most (length l)

-- `mac`: refused exactly if the key or the message is too long
abbrev pub Macs : List ℕ → List ℕ → Result (List ℕ) Refusal → Type 0
Macs k m r = Gives (long k || long m) (hmac k m) r
