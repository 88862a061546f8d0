-- What the systems of a network send feeds both sides.
use Rattle.std.proofs.Common.{◌≡◌, ℕ, zero, suc, ◌==◌, Bool, true, false, List, [], ◌∷◌, ◌++◌}
use Rattle.std.proofs.Common.{length, filter, take, refl, sym, ap, ◌∙◌, subst, ◌≤◌, arith}
use Rattle.std.proofs.Common.{append_assoc, append-nil}
use Rattle.std.specs.Prelude.{Some, slice_get, if◌then◌else◌}
use Rattle.std.specs.List.{AllByRecursion}
use Rattle.afdx_frame.specs.Reading.{IsTheFrame, BuiltIsComputed}
use Rattle.afdx_frame.specs.declared.link.Side.{Side}
use Rattle.afdx_frame.specs.declared.link.Side.TheVariants.{A, B}
use Rattle.afdx_config.specs.LawfulStream.{Sending}
use Rattle.afdx_config.specs.Rows.{SystemRow, LinkRow, Rows}
use Rattle.afdx_police.specs.Arrival.{Arrival, is_side, names, own}
use Rattle.afdx_police.specs.Rule.{Rule}
use Rattle.afdx_port.specs.Schedule.{Turn}
use Rattle.afdx_config.specs.LawfulStream.{copy_on}
use Rattle.afdx_send.specs.Emissions as send
use Rattle.afdx_send.specs.Frames.{Frame, address_with}
use Rattle.afdx_send.specs.Laws.{IsBuildable}
use Rattle.afdx_switch.specs.Tables.{rule_of}
use Rattle.afdx_switch.proofs.NewLemmas.{rule-is}
use Rattle.afdx_law_promises.specs.Sent.{frame_on, sent_in, stream_of, IsSentAs, AreSentAs}
use Rattle.afdx_law_promises.specs.Sent.{arrivals_at, SentIsFed, StreamIsOfSendings}
use Rattle.afdx_law_promises.specs.Sent.{ReleasedAreToldOnce, IsMergedSoFar, ReleasedAreToldSoFar}
use Rattle.afdx_law_promises.specs.Sent.{OneSideIsEnough}
use Rattle.afdx_law_promises.specs.Promises.{most_come}
use Rattle.afdx_switch.specs.Streams.{at_own_port, AreFirstOf, IsFed}
use Rattle.afdx_law_promises.proofs.ReceiverLemmas.{names-frame}

-- ---- frames

the-frame : BuiltIsComputed → (s : SystemRow) (turn : Turn Frame) (side : Side) → IsBuildable s turn →
    IsTheFrame (address_with s.id s.partition turn.entry.item) turn.entry.item.number side
    turn.entry.item.message.payload (frame_on s side turn.entry.item)
the-frame computed s turn side is =
    computed (address_with s.id s.partition turn.entry.item) turn.entry.item.number side
    turn.entry.item.message.payload is.buildable is.bytes is.number

pub copy-is : (s : SystemRow) (turn : Turn Frame) (side : Side) → copy_on side (sent_in s turn)
    ≡ frame_on s side turn.entry.item
copy-is s turn A = refl
copy-is s turn B = refl

names-sent : BuiltIsComputed
    → (s : SystemRow) (turn : Turn Frame) (side : Side) (vl : ℕ) (x : Arrival) → IsBuildable s turn
    → IsSentAs s side turn x → names vl x.bytes ≡ (turn.entry.item.vl == vl)
names-sent computed s turn side vl x is sent =
    ap (names vl) (sent.bytes ∙ copy-is s turn side)
    ∙ names-frame vl (frame_on s side turn.entry.item) _ (the-frame computed s turn side is).parts

-- ---- the stream is of sendings

pub stream-of-sendings : BuiltIsComputed → StreamIsOfSendings
unfolding stream_of
stream-of-sendings computed s vl [] all = refl
stream-of-sendings computed s vl (turn ∷ earlier) all =
    by (turn.entry.item.vl == vl) (stream-of-sendings computed s vl earlier all.1)
  where
    a : IsTheFrame (address_with s.id s.partition turn.entry.item) turn.entry.item.number A
        turn.entry.item.message.payload (frame_on s A turn.entry.item)
    a = the-frame computed s turn A all.0

    b : IsTheFrame (address_with s.id s.partition turn.entry.item) turn.entry.item.number B
        turn.entry.item.message.payload (frame_on s B turn.entry.item)
    b = the-frame computed s turn B all.0

    by : (own_link : Bool) → send.AreSendings s vl earlier (stream_of s vl earlier) →
        send.with_sending s own_link (send.AreSendings s vl earlier) turn
        (if own_link then stream_of s vl earlier ++ sent_in s turn ∷ [] else stream_of s vl earlier)
    by true rest = (
      stream_of s vl earlier,
      sent_in s turn,
      refl,
      record { time = refl; a = a.built; b = b.built; a_long = a.long; b_long = b.long },
      rest,
    )
    by false rest = rest

-- ---- what arrives is the stream

get-left : (xs ys : List Sending) (k : ℕ) (y : Sending) → slice_get xs k ≡ Some y → slice_get (xs ++ ys) k ≡ Some y
get-left [] ys k y at = absurd (cc at)
get-left (x ∷ xs) ys zero y at = at
get-left (x ∷ xs) ys (suc k) y at = get-left xs ys k y at

get-last : (xs : List Sending) (y : Sending) → slice_get (xs ++ y ∷ []) (length xs) ≡ Some y
get-last [] y = refl
get-last (x ∷ xs) y = get-last xs y

more-sendings : (side : Side) (stream more : List Sending) (xs : List Arrival)
    → AreFirstOf side stream xs → AreFirstOf side (stream ++ more) xs
more-sendings side stream more [] are = tt
more-sendings side stream more (x ∷ past) are = (
  record {
    sending = are.0.sending;
    at_place = get-left stream more (length past) are.0.sending are.0.at_place;
    time = are.0.time;
    bytes = are.0.bytes;
  },
  more-sendings side stream more past are.1,
)

long-more : (xs : List Sending) (y : Sending) → length (xs ++ y ∷ []) ≡ suc (length xs)
long-more [] y = refl
long-more (x ∷ xs) y = ap (λ n. suc n) (long-more xs y)

pub record IsStream (side : Side) (stream : List Sending) (xs : List Arrival) : Type 0 where
  pub frames : AreFirstOf side stream xs
  pub whole : length xs ≡ length stream

sent-are : BuiltIsComputed
    → (s : SystemRow) (side : Side) (vl : ℕ) (turns : List (Turn Frame)) (xs : List Arrival)
    → AllByRecursion (IsBuildable s) turns → AreSentAs s side turns xs →
    IsStream side (stream_of s vl turns) (filter (λ (x : Arrival). names vl x.bytes) xs)
unfolding stream_of
sent-are computed s side vl [] [] all are = record { frames = tt; whole = refl }
sent-are computed s side vl [] (x ∷ past) all are = absurd are
sent-are computed s side vl (turn ∷ earlier) [] all are = absurd are
sent-are computed s side vl (turn ∷ earlier) (x ∷ past) all are =
    by (turn.entry.item.vl == vl) (names-sent computed s turn side vl x all.0 are.0)
    (sent-are computed s side vl earlier past all.1 are.1)
  where
    by : (b : Bool) → names vl x.bytes ≡ b
        → IsStream side (stream_of s vl earlier) (filter (λ (y : Arrival). names vl y.bytes) past) →
        IsStream side (if b then stream_of s vl earlier ++ sent_in s turn
        ∷ [] else stream_of s vl earlier) (filter (λ (y : Arrival). names vl y.bytes) (x ∷ past))
    by false other rest = rw other rest
    by true named rest = rw named (record {
      frames = (
        record {
          sending = sent_in s turn;
          at_place = ap (slice_get (stream_of s vl earlier ++ sent_in s turn ∷ [])) rest.whole
              ∙ get-last (stream_of s vl earlier) (sent_in s turn);
          time = are.0.time;
          bytes = are.0.bytes;
        },
        more-sendings side (stream_of s vl earlier) (sent_in s turn ∷ [])
            (filter (λ (y : Arrival). names vl y.bytes) past) rest.frames,
      );
      whole = ap (λ n. suc n) rest.whole ∙ sym (long-more (stream_of s vl earlier) (sent_in s turn));
    })

-- those that name a link at its port are those at the port that name it
swapped : (vl port : ℕ) (side : Side) (xs : List Arrival)
    → filter (λ (x : Arrival). port == x.port) (own vl side xs)
    ≡ filter (λ (x : Arrival). names vl x.bytes) (arrivals_at side port xs)
swapped vl port side [] = refl
swapped vl port side (x ∷ past) = by (is_side side x.side) (names vl x.bytes) (port == x.port) refl
    refl refl (swapped vl port side past)
  where
    by : (a c b : Bool) → is_side side x.side ≡ a → names vl x.bytes ≡ c → (port == x.port) ≡ b →
        filter (λ (y : Arrival). port == y.port) (own vl side past)
        ≡ filter (λ (y : Arrival). names vl y.bytes) (arrivals_at side port past) →
        filter (λ (y : Arrival). port == y.port) (own vl side (x ∷ past))
        ≡ filter (λ (y : Arrival). names vl y.bytes) (arrivals_at side port (x ∷ past))
    by false c b on named here rest = rw on rest
    by true false false on named here rest = rw (on, named, here) rest
    by true false true on named here rest = rw (on, named, here, named) rest
    by true true false on named here rest = rw (on, named, here) rest
    by true true true on named here rest = rw (on, named, here, named) (ap (λ zs. x ∷ zs) rest)

port-is : (t : Rows) (l : LinkRow) (s : SystemRow) → slice_get t.systems l.from ≡ Some s → (rule_of t l).port ≡ s.port
port-is t l s at = ap (λ (r : Rule). r.port) (rule-is t l s at)

same-arrivals : (t : Rows) (arrivals : List Arrival) (s : SystemRow) (l : LinkRow) (side : Side)
    → slice_get t.systems l.from ≡ Some s → at_own_port t l side arrivals
    ≡ filter (λ (x : Arrival). names l.vl x.bytes) (arrivals_at side s.port arrivals)
same-arrivals t arrivals s l side at =
    ap (λ port. filter (λ (x : Arrival). port == x.port) (own l.vl side arrivals))
    (port-is t l s at) ∙ swapped l.vl s.port side arrivals

side-is-fed : BuiltIsComputed
    → (t : Rows) (arrivals : List Arrival) (s : SystemRow) (l : LinkRow)
    (emitted : List (Turn Frame)) (side : Side) → slice_get t.systems l.from ≡ Some s
    → AllByRecursion (IsBuildable s) emitted →
    AreSentAs s side emitted (arrivals_at side s.port arrivals) → IsFed t l (stream_of s l.vl emitted) side arrivals
side-is-fed computed t arrivals s l emitted side at all sent =
    let same = same-arrivals t arrivals s l side at in
    let are = sent-are computed s side l.vl emitted (arrivals_at side s.port arrivals) all sent in
    record {
      frames = subst (AreFirstOf side (stream_of s l.vl emitted)) (sym same) are.frames;
      whole = ap length same ∙ are.whole;
    }

pub sent-is-fed : BuiltIsComputed → SentIsFed
sent-is-fed computed t arrivals s l emitted at all merged side =
    side-is-fed computed t arrivals s l emitted side at all (merged side)

pub released-once : BuiltIsComputed → ReleasedAreToldOnce
released-once computed t arrivals lines h system place at s l once stands link goes between from all merged e =
    once system place s l _ (stream_of h.system l.vl h.emitted) stands link goes between
    (record { sender = h.system; stands = from; lawful = e.lawful })
    (sent-is-fed computed t arrivals h.system l h.emitted from all merged)

-- ---- where a network fails in the middle

stream-more : (s : SystemRow) (vl : ℕ) (later earlier : List (Turn Frame)) → (more : List Sending)
    × (stream_of s vl (later ++ earlier) ≡ stream_of s vl earlier ++ more)
unfolding stream_of
stream-more s vl [] earlier = ([], sym (append-nil (stream_of s vl earlier)))
stream-more s vl (turn ∷ later) earlier = by (turn.entry.item.vl == vl) (stream-more s vl later earlier)
  where
    by : (b : Bool) → (more : List Sending) × (stream_of s vl (later ++ earlier) ≡ stream_of s vl earlier ++ more) →
        (more : List Sending) × ((if b then stream_of s vl (later ++ earlier) ++ sent_in s turn
        ∷ [] else stream_of s vl (later ++ earlier)) ≡ stream_of s vl earlier ++ more)
    by true rest = (
      rest.0 ++ sent_in s turn ∷ [],
      ap (λ z. z ++ sent_in s turn ∷ []) rest.1
          ∙ append_assoc (stream_of s vl earlier) rest.0 (sent_in s turn ∷ []),
    )
    by false rest = rest

pub all-earlier : {Y : Type 0} (P : Y → Type 0) (later earlier : List Y)
    → AllByRecursion P (later ++ earlier) → AllByRecursion P earlier
all-earlier P [] earlier all = all
all-earlier P (y ∷ later) earlier all = all-earlier P later earlier all.1

pub sent-so-far : BuiltIsComputed
    → (t : Rows) (arrivals : List Arrival) (s : SystemRow) (l : LinkRow)
    (emitted : List (Turn Frame)) → slice_get t.systems l.from ≡ Some s
    → AllByRecursion (IsBuildable s) emitted →
    IsMergedSoFar s emitted arrivals → (side : Side)
    → AreFirstOf side (stream_of s l.vl emitted) (at_own_port t l side arrivals)
sent-so-far computed t arrivals s l emitted at all merged side =
    let k = merged side in
    let build = all-earlier (IsBuildable s) k.0 k.1
    (subst (λ (z : List (Turn Frame)). AllByRecursion (IsBuildable s) z) k.2 all) in
    let are = sent-are computed s side l.vl k.1 (arrivals_at side s.port arrivals) build k.3 in
    let more = stream-more s l.vl k.0 k.1 in
    let longer = more-sendings side (stream_of s l.vl k.1) more.0
    (filter (λ (x : Arrival). names l.vl x.bytes) (arrivals_at side s.port arrivals)) are.frames in
    let whole : stream_of s l.vl k.1 ++ more.0 ≡ stream_of s l.vl emitted = sym more.1
    ∙ ap (stream_of s l.vl) (sym k.2) in
    subst (AreFirstOf side (stream_of s l.vl emitted)) (sym (same-arrivals t arrivals s l side at))
    (subst (λ (z : List Sending).
    AreFirstOf side z (filter (λ (x : Arrival). names l.vl x.bytes)
    (arrivals_at side s.port arrivals))) whole longer)

pub released-so-far : BuiltIsComputed → ReleasedAreToldSoFar
released-so-far computed t arrivals lines h system place at s l once stands link goes between from all merged e =
    once system place s l _ (stream_of h.system l.vl h.emitted) stands link goes between
    (record { sender = h.system; stands = from; lawful = e.lawful })
    (sent-so-far computed t arrivals h.system l h.emitted from all merged)

pub take-all : {Y : Type 0} (n : ℕ) (xs : List Y) → length xs ≤ n → take n xs ≡ xs
take-all zero [] le = refl
take-all zero (x ∷ xs) le = absurd (omega (arith, le))
take-all (suc n) [] le = refl
take-all (suc n) (x ∷ xs) le = ap (λ zs. x ∷ zs) (take-all n xs (omega (arith, le)))

most-on : (t : Rows) (l : LinkRow) (arrivals : List Arrival) (side : Side)
    → length (at_own_port t l side arrivals) ≤ most_come t l arrivals
most-on t l arrivals A = omega arith
most-on t l arrivals B = omega arith

pub one-side : BuiltIsComputed → OneSideIsEnough
one-side computed t arrivals h at l whole from all sent e =
    let fed = side-is-fed computed t arrivals h.system l h.emitted whole from all sent in
    let count = e.lawful.message_count in
    let come = fed.whole in
    let most = most-on t l arrivals whole in
    take-all (most_come t l arrivals) (send.sent_list (send.own at e.released)) (omega (arith, count, come, most))
