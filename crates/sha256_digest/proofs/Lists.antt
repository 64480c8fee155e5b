-- Lists of one byte over and over. Assumes nothing.
use Rattle.std.proofs.Common.{◌≡◌, ℕ, ◌-◌, ◌≤◌, drop, replicate}
use Rattle.std.proofs.lemmas.List.{drop-replicate}

pub drop_replicate : (k n x : ℕ) → k ≤ n → drop k (replicate n x) ≡ replicate (n - k) x
drop_replicate k n x h = drop-replicate k n x
