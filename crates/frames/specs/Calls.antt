-- The calls of docs/CALLS.md: their numbers, and how many bytes each of their arguments has. Assumes nothing.
use Rattle.std.specs.Prelude.{Bool, true, false, ◌||◌, List, [], ◌∷◌, ℕ, ◌+◌, eqb, length, get_or}
use Rattle.std.proofs.Math.Option.{Option, none, some}

-- one call's arguments together have at most so many bytes
abbrev pub most_argument_bytes : ℕ
most_argument_bytes = 262144

-- stands for any length: it is longer than an argument can be
abbrev pub any : ℕ
any = most_argument_bytes + 1

-- the arguments of one length: a monitor, a state of the running hash, a place in a trace
abbrev pub monitor_bytes : ℕ
monitor_bytes = 3

abbrev pub state_bytes : ℕ
state_bytes = 104

abbrev pub place_bytes : ℕ
place_bytes = 8

-- by their numbers: no call, or the length of each argument, in order
abbrev pub calls : List (Option (List ℕ))
calls =
    none  -- 0: no call
    ∷ some (any ∷ [])  -- 1: layout
    ∷ some (any ∷ any ∷ any ∷ monitor_bytes ∷ any ∷ [])  -- 2: memory, layout, step, monitor, room
    ∷ some (any ∷ any ∷ any ∷ any ∷ [])  -- 3: memory, layout, trace, room
    ∷ some (any ∷ any ∷ [])  -- 4: memory, layout
    ∷ some (any ∷ any ∷ [])  -- 5: key, challenge
    ∷ some (any ∷ any ∷ any ∷ any ∷ [])  -- 6: key, challenge, reply, region
    ∷ some (any ∷ [])  -- 7: message
    ∷ some (any ∷ any ∷ [])  -- 8: key, message
    ∷ some (state_bytes ∷ any ∷ [])  -- 9: state, bytes
    ∷ some (state_bytes ∷ [])  -- 10: state
    ∷ some (state_bytes ∷ any ∷ [])  -- 11: state, bytes
    ∷ some (state_bytes ∷ [])  -- 12: state
    ∷ some (any ∷ place_bytes ∷ [])  -- 13: trace, place
    ∷ some (any ∷ any ∷ any ∷ [])  -- 14: file, memory, room
    ∷ []

abbrev pub is_call : Option (List ℕ) → Bool
is_call none = false
is_call (some l) = true

abbrev pub arguments_of : Option (List ℕ) → List ℕ
arguments_of none = []
arguments_of (some l) = l

-- whether a call has this number, and how many arguments it has
unfoldable pub listed : ℕ → Bool
listed n = is_call (get_or calls n none)

unfoldable pub count : ℕ → ℕ
count n = length (arguments_of (get_or calls n none))

-- argument i of call n may have k bytes
abbrev pub length_allows : ℕ → ℕ → Bool
length_allows l k = eqb l any || eqb k l

unfoldable pub allowed : ℕ → ℕ → ℕ → Bool
allowed n i k = length_allows (get_or (arguments_of (get_or calls n none)) i any) k
