-- The loop of `feed`: what is taken and what is left of a piece.
use Prim.Native.Nat.{ℕ, zero, suc, ◌+◌, ◌-◌, ◌≤◌, ◌<◌, min}
use mathlib.Core.Path.{◌≡◌, refl, ap, ap₂, sym, subst, ◌∙◌}
use mathlib.Core.List.{List, [], ◌∷◌, ◌++◌, append_assoc}
use native.Mathlib.Omega.{arith}
use borrow.Author.Tests.{lt-ltb, le-ltb}
use borrow.Author.Rules.{part_to_end}
use denote.Enum.Declared.{tag_of}
use types.Run.{OneOf}
use lib.ListN.{length, take, drop, set, length-set, length-append, length-drop, take-append-drop, drop_of_length-le}
use lib.Seq.{set_split, length-take-le, drop-drop}
use Rattle.primitives.specs.Bytes.{over}
use Rattle.primitives.proofs.Over.{over_over}
use Rattle.frames.specs.declared.FrameLength.{FrameLength}
use Rattle.frames.specs.declared.BodyLength.{BodyLength}
use Rattle.frames.specs.declared.Kind.{Kind}
use Rattle.frames.specs.declared.Fault.{Fault}
use Rattle.frames.specs.declared.Fault.TheVariants.{BadLength}
use Rattle.frames.specs.declared.Step.{Step}
use Rattle.frames.specs.declared.Step.TheVariants.{Whole, NotYet, Stopped}
use Rattle.frames.specs.Frames.{longest, in_frame, judged}
use Rattle.frames.specs.contracts.Step.{the_type}
use Rattle.dock.specs.declared.Stream.{Stream}
use Rattle.dock.specs.declared.Stream.TheVariants.{Collecting, Stopped as Stays}
use Rattle.dock.specs.declared.Part.{Part}
use Rattle.dock.specs.Held.{Feeding, step_of, stream_after, buffer_after, resting, fed, whole_or, feeding_from}
use Rattle.dock.specs.Parts.{Parting, reach, parted, judged_part, collecting_part, part}
use Rattle.dock.proofs.Stepping.{front_more}
use Rattle.frames.proofs.Judgments.{by_ltb}
use Rattle.dock.proofs.Ahead.{Next, reached}

-- a stopped stream passes over all that is left
pub stopped_from : (i : ℕ) (f : Fault) (buffer bs : List ℕ)
    → feeding_from i (Stays f) buffer bs ≡ fed (record { stream = Stays f; step = Stopped f; taken = i + length bs }) buffer
unfolding feeding_from step_of buffer_after whole_or
stopped_from i f buffer [] = let e : i ≡ i + 0 = omega arith in ap (λ (n : ℕ). fed (record { stream = Stays f; step = Stopped f; taken = n }) buffer) e
stopped_from i f buffer (b ∷ bs) =
    let e : i + 1 + length bs ≡ i + length (b ∷ bs) = omega arith in
    stopped_from (i + 1) f buffer bs ∙ ap (λ (n : ℕ). fed (record { stream = Stays f; step = Stopped f; taken = n }) buffer) e

-- what is fed where so many bytes were taken at once: s is the answer to the last of them
unfoldable pub on_from : ℕ → Step → ℕ → List ℕ → List ℕ → Feeding
on_from i s k kept rest =
    whole_or s (fed (record { stream = stream_after s; step = s; taken = i + k }) kept) (feeding_from (i + k) (stream_after s) kept rest)

same_from : (i j k l : ℕ) (s t : Step) (p q rest : List ℕ) → i + k ≡ j + l → s ≡ t → p ≡ q → on_from i s k p rest ≡ on_from j t l q rest
unfolding on_from
same_from i j k l s t p q rest e f g = rw (e, f, g)

not_yet_from : (i k : ℕ) (s : Step) (n : FrameLength) (kept rest : List ℕ) → s ≡ NotYet n → on_from i s k kept rest ≡ feeding_from (i + k) (Collecting n) kept rest
unfolding on_from whole_or
not_yet_from i k s n kept rest e = rw e

-- one byte put behind n, and then others
set_over : (n b : ℕ) (buffer : List ℕ) → n < length buffer → set buffer n b ≡ over n (b ∷ []) buffer
unfolding over
set_over n b buffer h = set_split buffer n b h ∙ ap (λ k. take n buffer ++ (b ∷ drop k buffer)) (let e : suc n ≡ n + 1 = omega arith in e)

over_byte : (n b : ℕ) (bs buffer : List ℕ) → n + 1 + length bs ≤ length buffer → over (n + 1) bs (set buffer n b) ≡ over n (b ∷ bs) buffer
over_byte n b bs buffer h =
    ap (over (n + 1) bs) (set_over n b buffer (omega arith)) ∙ over_over n (n + 1) (b ∷ []) bs buffer refl h

-- a stopped stream, and one with no room for a byte more
stopped_on : (i : ℕ) (f : Fault) (buffer bs : List ℕ) → feeding_from i (Stays f) buffer bs ≡ on_from i (Stopped f) (length bs) buffer (drop (length bs) bs)
unfolding on_from whole_or
stopped_on i f buffer bs =
    let none : drop (length bs) bs ≡ [] = drop_of_length-le bs {i = length bs} (omega arith) in
    let n : i + length bs ≡ i + length bs + 0 = omega arith in
    stopped_from i f buffer bs
    ∙ ap (λ (j : ℕ). fed (record { stream = Stays f; step = Stopped f; taken = j }) buffer) n
    ∙ sym (ap (feeding_from (i + length bs) (Stays f) buffer) none ∙ stopped_from (i + length bs) f buffer [])

past_first : (i : ℕ) (n : FrameLength) (buffer : List ℕ) (b : ℕ) (bs : List ℕ) → longest ≤ n.0
    → feeding_from i (Collecting n) buffer (b ∷ bs) ≡ feeding_from i (Stays BadLength) buffer (b ∷ bs)
unfolding feeding_from step_of buffer_after whole_or
past_first i n buffer b bs h = rw (le-ltb n.0 longest h)

past_room : (i : ℕ) (n : FrameLength) (buffer : List ℕ) (b : ℕ) (bs : List ℕ) → longest ≤ n.0
    → feeding_from i (Collecting n) buffer (b ∷ bs) ≡ on_from i (Stopped BadLength) (length (b ∷ bs)) buffer (drop (length (b ∷ bs)) (b ∷ bs))
past_room i n buffer b bs h = past_first i n buffer b bs h ∙ stopped_on i BadLength buffer (b ∷ bs)

-- with c collected: bytes up to m, where they are judged next, taken one by one ------------------------------------------------

-- one byte
byte_taken : (c buffer bs : List ℕ) (i b : ℕ) → take (length c) buffer ≡ c → length buffer ≡ longest → length c < longest
    → feeding_from i (Collecting (in_frame (length c))) buffer (b ∷ bs) ≡ on_from i (judged (c ++ (b ∷ []))) 1 (set buffer (length c) b) bs
unfolding feeding_from step_of buffer_after on_from
byte_taken c buffer bs i b front size low = rw (lt-ltb (length c) longest low, front)

-- the bytes behind c are quiet behind c and a byte
quiet_on : (c bytes : List ℕ) (b m : ℕ) → Next c (b ∷ bytes) m → length c + 1 < m → Next (c ++ (b ∷ [])) bytes m
quiet_on c bytes b m n h =
    let l = length-append c (b ∷ []) in
    record {
      ahead = omega (arith, l);
      within = λ s. n.within (omega (arith, l));
      quiet = λ k p q i. rw append_assoc (n.quiet (suc k) (omega arith) (omega arith) (omega (arith, l)));
    }

part_from : (bs c buffer rest : List ℕ) (b i m : ℕ) → Next c (b ∷ (bs ++ rest)) m → take (length c) buffer ≡ c → length buffer ≡ longest → length c < longest
    → length c + length (b ∷ bs) ≤ m
    → feeding_from i (Collecting (in_frame (length c))) buffer (b ∷ (bs ++ rest))
    ≡ on_from i (judged (c ++ (b ∷ bs))) (length (b ∷ bs)) (over (length c) (b ∷ bs) buffer) rest
part_from [] c buffer rest b i m n front size low h =
    byte_taken c buffer rest i b front size low ∙ ap (λ k. on_from i (judged (c ++ (b ∷ []))) 1 k rest) (set_over (length c) b buffer (omega arith))
part_from (d ∷ bs) c buffer rest b i m n front size low h =
    let one = length-append c (b ∷ []) in
    let yet : judged (c ++ (b ∷ [])) ≡ NotYet (in_frame (length (c ++ (b ∷ [])))) = n.quiet 1 (omega arith) (omega arith) (omega arith) in
    let top = n.within low in
    let front' : take (length (c ++ (b ∷ []))) (set buffer (length c) b) ≡ c ++ (b ∷ []) =
    ap (λ k. take k (set buffer (length c) b)) one ∙ front_more buffer (length c) b (omega arith) ∙ ap (λ p. p ++ (b ∷ [])) front in
    let size' : length (set buffer (length c) b) ≡ longest = length-set buffer (length c) b ∙ size in
    let later =
    part_from bs (c ++ (b ∷ [])) (set buffer (length c) b) rest d (i + 1) m (quiet_on c (d ∷ (bs ++ rest)) b m n (omega arith)) front' size' (omega (arith, one)) (omega (arith, one)) in
    let judged_same = ap judged (append_assoc c (b ∷ []) (d ∷ bs)) in
    let over_same : over (length (c ++ (b ∷ []))) (d ∷ bs) (set buffer (length c) b) ≡ over (length c) (b ∷ d ∷ bs) buffer =
    ap (λ k. over k (d ∷ bs) (set buffer (length c) b)) one ∙ over_byte (length c) b (d ∷ bs) buffer (omega arith) in
    byte_taken c buffer (d ∷ (bs ++ rest)) i b front size low
    ∙ not_yet_from i 1 _ _ (set buffer (length c) b) (d ∷ (bs ++ rest)) yet
    ∙ later
    ∙ same_from (i + 1) i (length (d ∷ bs)) (length (b ∷ d ∷ bs)) _ _ _ _ rest (omega arith) judged_same over_same

-- what a part is, of any stream ------------------------------------------------------------------------------------------------

split_front : (k : ℕ) (bs : List ℕ) → 0 < k → k ≤ length bs → (b : ℕ) × (ds : List ℕ) × (take k bs ≡ b ∷ ds)
split_front zero bs h l = absurd (omega arith)
split_front (suc k) [] h l = absurd (omega arith)
split_front (suc k) (b ∷ bs) h l = (b, take k bs, refl)

module _ (n : ℕ) (buffer bs : List ℕ) (size : length buffer ≡ longest) (low : n < longest) where
  abbrev c : List ℕ
  c = take n buffer

  front_size : length c ≡ n
  front_size = length-take-le n buffer (omega arith)

  abbrev m : ℕ
  m = reach n buffer bs

  abbrev k : ℕ
  k = min (m - n) (length bs)

  k_some : 0 < length bs → 0 < k
  k_some some = omega (arith, (reached n buffer bs).ahead, front_size)

  collected_from : (i : ℕ) → 0 < length bs → feeding_from i (Collecting (in_frame n)) buffer bs ≡ on_from i (judged (c ++ take k bs)) k (over n (take k bs) buffer) (drop k bs)
  collected_from i some =
      let f = split_front k bs (k_some some) (omega arith) in
      let b = f.0 in
      let ds = f.1 in
      let e : take k bs ≡ b ∷ ds = f.2 in
      let whole : bs ≡ b ∷ (ds ++ drop k bs) = sym (take-append-drop k bs) ∙ ap (λ (p : List ℕ). p ++ drop k bs) e in
      let l : length (b ∷ ds) ≡ k = ap length (sym e) ∙ length-take-le k bs (omega arith) in
      let front : take (length c) buffer ≡ c = ap (λ j. take j buffer) front_size in
      ap₂ (λ (j : ℕ) (p : List ℕ). feeding_from i (Collecting (in_frame j)) buffer p) (sym front_size) whole
      ∙ part_from ds c buffer (drop k bs) b i m (subst (λ (p : List ℕ). Next c p m) whole (reached n buffer bs)) front size (omega (arith, front_size)) (omega (arith, front_size, (reached n buffer bs).ahead))
      ∙ same_from i i (length (b ∷ ds)) k _ _ _ _ (drop k bs) (ap (λ j. i + j) l) (ap (λ p. judged (c ++ p)) (sym e))
      (ap₂ (λ (j : ℕ) (p : List ℕ). over j p buffer) front_size (sym e))

-- what `feeding_from` gives is what is fed where a part was taken
abbrev pub FedBy : (i : ℕ) (s : Stream) (buffer bs : List ℕ) → Parting → Type 0
FedBy i s buffer bs p = feeding_from i s buffer bs ≡ on_from i p.answer.step p.answer.taken p.buffer (drop p.answer.taken bs)

pub part_fed : (i : ℕ) (s : Stream) (buffer bs : List ℕ) → length buffer ≡ longest → 0 < length bs → FedBy i s buffer bs (part s buffer bs)
unfolding part collecting_part judged_part
part_fed i (Stays f) buffer bs size some = stopped_on i f buffer bs
part_fed i (Collecting n) buffer [] size some = absurd (omega arith)
part_fed i (Collecting n) buffer (b ∷ bs) size some =
    by_ltb (FedBy i (Collecting n) buffer (b ∷ bs)) n.0 longest
    (λ low. collected_from n.0 buffer (b ∷ bs) size low i some) (past_room i n buffer b bs)

-- it takes some bytes and no more than there are
record IsPart (bs : List ℕ) (p : Parting) : Type 0 where
  pub some : 0 < p.answer.taken
  pub most : p.answer.taken ≤ length bs

is_part : (s : Stream) (buffer bs : List ℕ) → length buffer ≡ longest → 0 < length bs → IsPart bs (part s buffer bs)
unfolding part collecting_part judged_part
is_part (Stays f) buffer bs size some = record { some = some; most = omega arith }
is_part (Collecting n) buffer bs size some =
    by_ltb (IsPart bs) n.0 longest
    (λ low. record { some = k_some n.0 buffer bs size low some; most = omega arith })
    (λ high. record { some = some; most = omega arith })

-- the loop ---------------------------------------------------------------------------------------------------------------------

goes_on : (s : Step) (a b : Feeding) → ((k : Kind) (n : BodyLength) → s ≡ Whole k n → ⊥) → whole_or s a b ≡ b
unfolding whole_or
goes_on (Whole k n) a b e = absurd (e k n refl)
goes_on (NotYet n) a b e = refl
goes_on (Stopped f) a b e = refl

ends : (s : Step) (a b : Feeding) → OneOf (0 ∷ []) (tag_of the_type s) → whole_or s a b ≡ a
unfolding whole_or
ends (Whole k n) a b e = refl
ends (NotYet n) a b e = absurd (omega arith)
ends (Stopped f) a b e = absurd (omega arith)

-- a part of what is left of a piece, with i bytes taken before it
module _ (i : ℕ) (s : Stream) (buffer piece : List ℕ) (r : Part) (kept : List ℕ) (e : parted r kept ≡ part s buffer (take (length piece - i) (drop i piece)))
    (h : i < length piece) (size : length buffer ≡ longest) where
  rest_is : take (length piece - i) (drop i piece) ≡ drop i piece
  rest_is = part_to_end piece i

  whole_is : parted r kept ≡ part s buffer (drop i piece)
  whole_is = e ∙ ap (part s buffer) rest_is

  rest_some : 0 < length (drop i piece)
  rest_some = simp length-drop (omega arith)

  taken_is : r.taken ≡ (part s buffer (drop i piece)).answer.taken
  taken_is = ap (λ (p : Parting). p.answer.taken) whole_is

  taken_some : 0 < r.taken
  taken_some = omega (arith, taken_is, (is_part s buffer (drop i piece) size rest_some).some)

  pub taken_within : i + r.taken ≤ length piece
  taken_within = omega (arith, taken_is, (is_part s buffer (drop i piece) size rest_some).most, length-drop i piece)

  pub left_less : length piece - (i + r.taken) < length piece - i
  left_less = omega (arith, taken_some, taken_within)

  module _ (w : Feeding) (inv : feeding_from i s buffer (drop i piece) ≡ w) (later : Stream) (l : later ≡ stream_after r.step) where
    turn : whole_or r.step (fed (record { stream = later; step = r.step; taken = i + r.taken }) kept) (feeding_from (i + r.taken) later kept (drop (i + r.taken) piece)) ≡ w
    turn =
        rw l (on_is ∙ sym (ap (λ (p : Parting). on_from i p.answer.step p.answer.taken p.buffer (drop p.answer.taken (drop i piece))) (sym whole_is))
        ∙ sym (part_fed i s buffer (drop i piece) size rest_some) ∙ inv)
      where
        on_is : whole_or r.step (fed (record { stream = stream_after r.step; step = r.step; taken = i + r.taken }) kept)
            (feeding_from (i + r.taken) (stream_after r.step) kept (drop (i + r.taken) piece))
            ≡ on_from i r.step r.taken kept (drop r.taken (drop i piece))
        on_is = unfold on_from in rw drop-drop

    pub feed_on : ((k : Kind) (n : BodyLength) → r.step ≡ Whole k n → ⊥) → feeding_from (i + r.taken) later kept (drop (i + r.taken) piece) ≡ w
    feed_on k = sym (goes_on r.step _ _ k) ∙ turn

    pub feed_whole : OneOf (0 ∷ []) (tag_of the_type r.step) → fed (record { stream = later; step = r.step; taken = i + r.taken }) kept ≡ w
    feed_whole k = sym (ends r.step _ _ k) ∙ turn

pub feed_end : (w : Feeding) (i : ℕ) (s : Stream) (buffer piece : List ℕ) (r : Step) → feeding_from i s buffer (drop i piece) ≡ w → length piece ≤ i → r ≡ resting s
    → fed (record { stream = s; step = r; taken = i }) buffer ≡ w
unfolding feeding_from
feed_end w i s buffer piece r inv h e = rw e (sym (ap (feeding_from i s buffer) (drop_of_length-le piece h)) ∙ inv)
