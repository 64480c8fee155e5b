-- A good layout, in the rules page's words: exactly these pass the check, as proofs/Laws.antt shows. Assumes nothing.
use Rattle.std.specs.Prelude.{◌≡◌, true, false, List, ℕ, ◌≤◌, ◌<◌, length}
use Rattle.layout.specs.Regions.{within, size}
use Rattle.layout.specs.Layouts.{CR, KR, MR, CTR, region, may_share}
use Rattle.layout.specs.Layouts.{layout_bytes, regions, key_bytes, counter_bytes, least_mailbox}

pub record Good (b : List ℕ) : Type 0 where
  pub long : length b ≡ layout_bytes
  pub ordered : (k : ℕ) → k < regions → (region b k).lo ≤ (region b k).hi
  pub key : size (region b KR) ≡ key_bytes
  pub mailbox : least_mailbox ≤ size (region b MR)
  pub counter : size (region b CTR) ≡ counter_bytes
  pub zero : within (region b CR) 0 ≡ false
  -- no address is in two regions, except that one may be in CR and AR
  pub apart : (i j : ℕ) → i < j → j < regions → may_share i j ≡ false
      → (a : ℕ) → within (region b i) a ≡ true → within (region b j) a ≡ true → ⊥
