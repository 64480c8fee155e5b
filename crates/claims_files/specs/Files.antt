-- Run files: what they are made of, what one that is judged comes to, two that differ in key and scratch, and two cases
-- of refusal. Claims; proofs/Files.antt has the proofs. Assumes nothing.
use Rattle.std.specs.Prelude.{◌≡◌, true, ◌≢◌, ◌↔◌, ◌⊎◌, List, ◌++◌, ℕ, ◌+◌, ◌≤◌, ◌<◌, ltb, length, get_or, take, set, Err, Ok, Result}
use Rattle.notions.specs.Choice.{pick}
use Rattle.refusal.specs.Numbers.{number}
use Rattle.refusal.specs.declared.Reason.TheVariants.{LayoutSize, Contents}
use Rattle.refusal.specs.declared.Refusal.{Refusal}
use Rattle.layout.specs.declared.Layout.{Layout}
use Rattle.layout.specs.Layouts.{layout_bytes}
use Rattle.layout.specs.Calls.{memory_bytes}
use Rattle.monitor.specs.declared.Totals.{Totals}
use Rattle.monitor.specs.Promises.{Traces}
use Rattle.file_contents.specs.Contents.{largest_file, contents_size, entries, layout_entry, memory_entry, trace_entry}
use Rattle.file_contents.specs.Contents.{offset, size, begins, file_check, body}
use Rattle.file_segments.specs.Segments.{head_size, start_at, size_at, place, segments, segment_check, described}
use Rattle.runfile.specs.Promises.{file_layout, file_memory, file_trace, judge_check, Judges}
use Rattle.report.specs.Text.{file_text}
use Rattle.claims_monitor.specs.Outside.{kr_or_xs}
use Rattle.claims_monitor.specs.Demand3.{Agree, secret, SameTrace, SameCall}

-- ---- the parts of a file

-- its contents and the three bodies, one behind another, and nothing else
pub record FileParts (f : List ℕ) : Type 0 where
  pub most : length f ≤ largest_file
  pub all : f ≡ take contents_size f ++ body f layout_entry ++ body f memory_entry ++ body f trace_entry
  -- each body begins where its entry says, and is as long as that says
  pub there : (k : ℕ) → k < entries → offset f k ≡ begins f k
  pub long : (k : ℕ) → k < entries → length (body f k) ≡ size f k
  pub layout : length (body f layout_entry) ≡ layout_bytes

-- the contents of exactly these files pass
abbrev pub Bodies : Type 0
Bodies = (f : List ℕ) → (file_check f ≡ Ok tt) ↔ FileParts f

-- ---- the memory that segments describe, byte by byte

-- segment k of a body names the address a
abbrev pub Names : List ℕ → ℕ → ℕ → Type 0
Names b k a = (start_at b (place b k) ≤ a) × (a < start_at b (place b k) + size_at b (place b k))

pub record Described (b : List ℕ) : Type 0 where
  pub long : length (described b) ≡ memory_bytes
  -- the segments reach the body's end
  pub whole : place b (segments b) ≡ length b
  -- no address is named twice
  pub once : (j k a : ℕ) → j < k → k < segments b → Names b j a → Names b k a → ⊥
  -- a named byte is the segment's
  pub named : (k i : ℕ) → k < segments b → i < size_at b (place b k)
      → get_or (described b) (start_at b (place b k) + i) 0 ≡ get_or b (place b k + head_size + i) 0
  -- unnamed bytes are 0
  pub unnamed : (a : ℕ) → a < memory_bytes → ((k : ℕ) → k < segments b → Names b k a → ⊥) → get_or (described b) a 0 ≡ 0

abbrev pub DescribedSo : Type 0
DescribedSo = (b : List ℕ) → segment_check b ≡ Ok tt → Described b

-- ---- a file that is judged

-- its answer is that of the call for a trace, on the memory, the layout and the trace that the file holds: so all that
-- is claimed of calls that judge a trace holds of it
abbrev pub FileIsTrace : Type 0
FileIsTrace =
    (file memory room memory' room' : List ℕ) (t : Totals) → Judges file memory room memory' room' (Ok t)
    → Traces (file_memory file) (body file layout_entry) (file_trace file) room memory' room' (Ok t)

-- and what stood in the lent memory is not seen
abbrev pub MemoryUnseen : Type 0
MemoryUnseen =
    (file x y room x' room₁ y' room₂ : List ℕ) (r q : Result Totals Refusal) → length x ≡ length y
    → Judges file x room x' room₁ r → Judges file y room y' room₂ q
    → (r ≡ q) × (room₁ ≡ room₂) × ((t : Totals) → r ≡ Ok t → x' ≡ y')

-- ---- two files that hold the same but for key and scratch

-- demand 3 of files: one layout, memories that agree outside KR and XS, traces that are the same but for bytes stored
-- into the scratch
pub record SameFile (f g : List ℕ) : Type 0 where
  pub layouts : body f layout_entry ≡ body g layout_entry
  pub memories : Agree (file_layout f) (file_memory f) (file_memory g)
  pub traces : SameTrace (file_layout f) (file_trace f) (file_trace g)

abbrev pub Demand3Files : Type 0
Demand3Files =
    (f g x y room x' y' room₁ room₂ : List ℕ) (t u : Totals) → SameFile f g
    → Judges f x room x' room₁ (Ok t) → Judges g y room y' room₂ (Ok u)
    → SameCall (file_layout f) t u room₁ room₂ x' y'

-- so the same text is printed of two such files if both are judged
abbrev pub PrintsTheSame : Type 0
PrintsTheSame =
    (f g x y room : List ℕ) → SameFile f g → judge_check f x room ≡ Ok tt → judge_check g y room ≡ Ok tt
    → file_text f x room ≡ file_text g y room

-- ---- two files with the same bytes but for key and scratch

-- byte k of a file is byte p of the body of entry e
abbrev pub ByteOf : List ℕ → ℕ → ℕ → ℕ → Type 0
ByteOf f e k p = (p < length (body f e)) × (k ≡ begins f e + p)

-- byte p of a memory body is what a segment holds for an address in KR or XS: so many bytes behind its start and length
pub record KeyOrScratch (l : Layout) (b : List ℕ) (p : ℕ) : Type 0 where
  pub segment : ℕ
  pub byte : ℕ
  pub counted : segment < segments b
  pub held : byte < size_at b (place b segment)
  pub stands : p ≡ place b segment + head_size + byte
  pub hides : kr_or_xs l (start_at b (place b segment) + byte) ≡ true

-- byte k of a file is hidden: it is such a byte, or one that the trace stores into the scratch
abbrev pub Hidden : List ℕ → ℕ → Type 0
Hidden f k =
    ((p : ℕ) × ByteOf f memory_entry k p × KeyOrScratch (file_layout f) (body f memory_entry) p)
    ⊎ ((p : ℕ) × ByteOf f trace_entry k p × (secret (file_layout f) (file_trace f) p ≡ true))

-- two files of one length, with the same byte at every place that is not hidden
pub record SameBytes (f g : List ℕ) : Type 0 where
  pub long : length f ≡ length g
  pub same : (k : ℕ) → (Hidden f k → ⊥) → get_or f k 0 ≡ get_or g k 0

-- demand 3 of files by their bytes, whether they are refused or not: with one answer room and lent memories of one
-- length, both get the same answer and leave the same answer room, and if they are judged, the memories that they leave
-- differ at most in KR and XS
abbrev pub Demand3Bytes : Type 0
Demand3Bytes =
    (f g x y room x' y' room₁ room₂ : List ℕ) (r q : Result Totals Refusal) → SameBytes f g → length x ≡ length y
    → Judges f x room x' room₁ r → Judges g y room y' room₂ q
    → (r ≡ q) × (room₁ ≡ room₂) × ((t : Totals) → r ≡ Ok t → Agree (file_layout f) x' y')

-- and the same text is printed of both, refused or not
abbrev pub PrintsAlike : Type 0
PrintsAlike = (f g x y room : List ℕ) → SameBytes f g → length x ≡ length y → file_text f x room ≡ file_text g y room

-- ---- which files these are

-- a file, and the same with any byte at a hidden place
abbrev pub HiddenIsFree : Type 0
HiddenIsFree = (f : List ℕ) (k v : ℕ) → Hidden f k → SameBytes f (set f k v) × (get_or (set f k v) k 0 ≡ v)

-- two memory bodies with the same start and length of each segment
abbrev pub SameHeads : List ℕ → List ℕ → Type 0
SameHeads b c = (j i : ℕ) → j < segments b → i < head_size → get_or b (place b j + i) 0 ≡ get_or c (place b j + i) 0

-- two files of one form: one length, the same contents, and the same start and length of each segment
pub record SameForm (f g : List ℕ) : Type 0 where
  pub long : length f ≡ length g
  pub contents : take contents_size f ≡ take contents_size g
  pub heads : SameHeads (body f memory_entry) (body g memory_entry)

-- if a file's contents and segments pass, exactly the files of its form that hold the same but for key and scratch have
-- the same bytes: nothing more is hidden, and nothing less
abbrev pub SameBytesExact : Type 0
SameBytesExact =
    (f g : List ℕ) → file_check f ≡ Ok tt → segment_check (body f memory_entry) ≡ Ok tt
    → SameBytes f g ↔ (SameForm f g × SameFile f g)

-- it does not matter which of the two files says where the hidden places are
abbrev pub EitherFileTells : Type 0
EitherFileTells = (f g : List ℕ) → SameBytes f g → SameBytes g f

-- ---- one that is refused

-- of a file that lost its end and has n bytes left: the first entry whose body is not left whole. A body ends where the
-- next begins, and the trace's with the file
abbrev pub cut_place : List ℕ → ℕ → ℕ
cut_place f n =
    pick (ltb n (begins f memory_entry)) layout_entry (pick (ltb n (begins f trace_entry)) memory_entry trace_entry)

-- what is left of such a file earns 13 at that entry, if the contents of the whole pass: at the trace's exactly if all
-- that stands before the trace is left
abbrev pub CutShort : Type 0
CutShort =
    (f memory room memory' room' : List ℕ) (n : ℕ) (r : Result Totals Refusal) → file_check f ≡ Ok tt → n < length f
    → Judges (take n f) memory room memory' room' r
    → r ≡ Err (record { reason = Contents; place = cut_place f n })

-- a layout body has 24 bytes, so 2 is never given
abbrev pub NeverLayoutSize : Type 0
NeverLayoutSize =
    (file memory room memory' room' : List ℕ) (r : Refusal) → Judges file memory room memory' room' (Err r)
    → number r.reason ≢ number LayoutSize
