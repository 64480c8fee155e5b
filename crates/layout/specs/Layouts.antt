-- The rules page on layouts: 24 bytes, six regions in this order, and which bytes are refused. Assumes nothing.
use Rattle.std.specs.Prelude.{Bool, not, ◌&&◌, ◌||◌, List, ℕ, ◌+◌, ◌*◌, ◌/◌, ◌%◌, eqb, ltb, length, get_or, Ok}
use Rattle.notions.specs.Choice.{pick}
use Rattle.notions.specs.First.{first}
use Rattle.refusal.specs.Answers.{Answer, refused_at}
use Rattle.refusal.specs.declared.Reason.TheVariants.{LayoutSize, RegionReversed, RegionSize, ZeroInCode, RegionsShare}
use Rattle.octets.specs.Numbers.{number_of_two}
use Rattle.layout.specs.declared.Region.{Region}
use Rattle.layout.specs.declared.Layout.{Layout}
use Rattle.layout.specs.Regions.{within, reversed, size, shares}

-- the bytes of a layout, how many regions they describe, and the bytes of each
abbrev pub layout_bytes : ℕ
layout_bytes = 24

abbrev pub regions : ℕ
regions = 6

abbrev pub region_bytes : ℕ
region_bytes = 4

-- the bytes of KR and of CTR, and the fewest of MR
abbrev pub key_bytes : ℕ
key_bytes = 64

abbrev pub counter_bytes : ℕ
counter_bytes = 32

abbrev pub least_mailbox : ℕ
least_mailbox = 96

-- the regions' numbers
abbrev pub CR : ℕ
CR = 0

abbrev pub KR : ℕ
KR = 1

abbrev pub XS : ℕ
XS = 2

abbrev pub MR : ℕ
MR = 3

abbrev pub CTR : ℕ
CTR = 4

abbrev pub AR : ℕ
AR = 5

-- region number k: its lowest and its highest address
abbrev pub region : List ℕ → ℕ → Region
region b k = record {
  lo = number_of_two (get_or b (region_bytes * k) 0) (get_or b (region_bytes * k + 1) 0);
  hi = number_of_two (get_or b (region_bytes * k + 2) 0) (get_or b (region_bytes * k + 3) 0);
}

unfoldable pub layout_of : List ℕ → Layout
layout_of b = record {
  cr = region b CR;
  kr = region b KR;
  xs = region b XS;
  mr = region b MR;
  ctr = region b CTR;
  ar = region b AR;
}

-- KR or CTR has another size, or MR is too small
abbrev pub wrong_size : ℕ → Region → Bool
wrong_size k r =
    eqb k KR && not (eqb (size r) key_bytes)
    || eqb k MR && ltb (size r) least_mailbox
    || eqb k CTR && not (eqb (size r) counter_bytes)

-- of two regions, the lower number first: AR and CR may share
abbrev pub may_share : ℕ → ℕ → Bool
may_share i j = eqb i CR && eqb j AR

-- two regions share an address and may not
abbrev pub collide : List ℕ → ℕ → ℕ → Bool
collide b i j = not (may_share i j) && shares (region b i) (region b j)

-- the first region that is reversed, the first of a wrong size; their number if there is none
abbrev pub first_reversed : List ℕ → ℕ
first_reversed b = first regions (λ k. reversed (region b k))

abbrev pub first_wrong_size : List ℕ → ℕ
first_wrong_size b = first regions (λ k. wrong_size k (region b k))

-- a pair of regions by its number, which is six times the lower one's plus the higher one's
abbrev pub pair_collides : List ℕ → ℕ → Bool
pair_collides b n = ltb (n / regions) (n % regions) && collide b (n / regions) (n % regions)

-- of the pairs that collide the one with the smallest number; 36 if none do
abbrev pub first_collision : List ℕ → ℕ
first_collision b = first (regions * regions) (pair_collides b)

-- refusals 2 to 6, in the page's order
unfoldable pub layout_check : List ℕ → Answer
layout_check b =
    pick (not (eqb (length b) layout_bytes)) (refused_at LayoutSize 0)
    (pick (ltb (first_reversed b) regions) (refused_at RegionReversed (first_reversed b))
    (pick (ltb (first_wrong_size b) regions) (refused_at RegionSize (first_wrong_size b))
    (pick (within (region b CR) 0) (refused_at ZeroInCode 0)
    (pick (ltb (first_collision b) (regions * regions)) (refused_at RegionsShare 0) (Ok tt)))))
