-- From what the senders took to what the receivers are told.
use Rattle.std.proofs.Common.{◌≡◌, ◌≢◌, ℕ, zero, suc, ◌<◌, ◌≤◌, true}
use Rattle.std.proofs.Common.{List, [], ◌∷◌, ◌++◌, length, take, filter, map}
use Rattle.std.proofs.Common.{Some, refl, sym, ap, subst, ◌∙◌, arith, inl, inr, append_assoc}
use Rattle.std.proofs.Common.{append-nil}
use Rattle.std.specs.Prelude.{reverse}
use Rattle.std.specs.List.{slice_get, AllByRecursion}
use Rattle.afdx_frame.specs.declared.link.Side.{Side}
use Rattle.std.proofs.lemmas.Option.{slice_get_within}
use Rattle.afdx_config.proofs.AmongOthersLemmas.{among_others, between-systems}
use Rattle.afdx_config.specs.Admission.{IsAdmitted, links_from}
use Rattle.afdx_config.specs.Lawful.{IsSystem, IsLawful}
use Rattle.afdx_config.specs.Reading.{has_port}
use Rattle.afdx_config.specs.Rows.{SystemRow, LinkRow, Rows, is_to}
use Rattle.afdx_input_lines.specs.FrameLines as frame
use Rattle.afdx_input_lines.specs.FrameLines.{line_says}
use Rattle.afdx_input_lines.specs.Lines.{lines_of, most_lines}
use Rattle.afdx_frame.proofs.ListLemmas.{AllByRecursion-slice_get}
use Rattle.afdx_police.specs.Arrival.{Arrival}
use Rattle.afdx_port.specs.Schedule.{Turn}
use Rattle.afdx_send.specs.Complete.{EmitsAll}
use Rattle.afdx_send.specs.Complete.{submissions_of, AreReleasesOfAll}
use Rattle.afdx_send.specs.Emissions.{own, sent_list}
use Rattle.afdx_send.specs.Frames.{Frame}
use Rattle.afdx_send.specs.Laws.{IsBuildable}
use Rattle.afdx_send.specs.Sender.{SenderHistory}
use Rattle.afdx_send.proofs.NextLemmas.{split_last}
use Rattle.afdx_law_promises.specs.Lines.{Line, messages_told}
use Rattle.afdx_law_promises.specs.Promises.{EachIsToldOnce, EachIsToldOnceSoFar, most_come}
use Rattle.afdx_law_promises.specs.Sent.{frame_on, stream_of, AreSentAs, arrivals_at}
use Rattle.afdx_law_promises.specs.Sent.{IsMergedSoFar}
use Rattle.afdx_law_promises.proofs.SentLemmas.{copy-is, all-earlier, take-all}
use Rattle.afdx_law_text.specs.EndToEnd.{says_at, lines_at, HoldsText, HasSent, heard_of, EachIsToldAsTaken}
use Rattle.afdx_law_text.specs.EndToEnd.{TakenIsToldOnce, WrittenIsSent, RunsTellTakenOnce}
use Rattle.afdx_law_text.specs.EndToEnd.{TextsAreLists, AreToldAsTaken}
use Rattle.afdx_input_sources.specs.Listed.{AreSound, arrivals_of}
use Rattle.afdx_law_text.specs.OneSide.{HoldsFirst, AreToldSoFar, TakenIsToldSoFar, TakenIsToldByOneSide}
use Rattle.afdx_command_tables.specs.sending.Events.{Event}
use Rattle.afdx_command_tables.specs.sending.Events.{turns_in, taken_by, calls_in}
use Rattle.afdx_command_tables.specs.sending.Text.{send_text}
use Rattle.afdx_law_text.proofs.PortLineLemmas.{AreSaidBy, said-by}
use Rattle.afdx_law_text.proofs.TextListLemmas.{text-is-list}
use Rattle.afdx_law_text.proofs.EmittedLemmas as emitted
use Rattle.afdx_law_text.proofs.EmittedLemmas.{Laws, sent-messages}
use Rattle.afdx_law_text.proofs.SendLineLemmas.{line_on, lines_on, CanBeRead, IsFine, turn-says}
use Rattle.afdx_law_text.proofs.SendLineLemmas.{says-tests, text-at-port, text-off-port}

-- ---- what arrives is what was sent

pub snoc-same : {Y : Type 0} (xs ys : List Y) (x y : Y) → xs ++ x ∷ [] ≡ ys ++ y ∷ [] → (xs ≡ ys) × (x ≡ y)
snoc-same [] [] x y h = (refl, cc h)
snoc-same [] (z ∷ []) x y h = absurd (cc h)
snoc-same [] (z ∷ w ∷ ys) x y h = absurd (cc h)
snoc-same (z ∷ []) [] x y h = absurd (cc h)
snoc-same (z ∷ w ∷ xs) [] x y h = absurd (cc h)
snoc-same (a ∷ xs) (b ∷ ys) x y h =
    (let head : a ≡ b = cc h in let tail : xs ++ x ∷ [] ≡ ys ++ y ∷ [] = cc h in let rest =
    snoc-same xs ys x y tail in (ap (λ z. z ∷ xs) head ∙ ap (λ z. b ∷ z) rest.0, rest.1))

pub not-empty : {Y : Type 0} (xs : List Y) (x : Y) → xs ++ x ∷ [] ≡ [] → ⊥
not-empty [] x h = cc h
not-empty (y ∷ ys) x h = cc h

sent-as : (s : SystemRow) (side : Side) → 1 ≤ s.port → s.port ≤ 24
    → (turns : List (Turn Frame)) (xs : List Arrival) → AllByRecursion (CanBeRead s) turns
    → AreSaidBy xs (lines_on [] s side turns) → AreSentAs s side turns xs
sent-as s side one most [] [] can said = tt
sent-as s side one most [] (x ∷ past) can said = not-empty said.0 said.1 (sym said.2)
sent-as s side one most (turn ∷ earlier) [] can said = not-empty (lines_on [] s side earlier) (line_on [] s side turn)
    said
sent-as s side one most (turn ∷ earlier) (x ∷ past) can said =
    let same = snoc-same (lines_on [] s side earlier) said.0 (line_on [] s side turn) said.1 said.2 in
    let f : frame.ListedFrame = record {
      time = turn.end;
      side = side;
      port = s.port;
      bytes = frame_on s side turn.entry.item;
    } in
    let says = sym (turn-says s one most side turn can.0) ∙ ap (line_says 0) same.1 ∙ said.3.said in
    let is : f ≡ said.3.frame = cc says in (
      record {
        time = said.3.time ∙ sym (ap (λ (z : frame.ListedFrame). z.time) is);
        bytes = said.3.bytes
            ∙ sym (ap (λ (z : frame.ListedFrame). z.bytes) is) ∙ sym (copy-is s turn side);
      },
      sent-as s side one most earlier past can.1 (subst (λ (z : List (List ℕ)). AreSaidBy past z) (sym same.0) said.4),
    )

pub take-map : {Y Z : Type 0} (f : Y → Z) (n : ℕ) (xs : List Y) → take n (map f xs) ≡ map f (take n xs)
take-map f zero xs = refl
take-map f (suc n) [] = refl
take-map f (suc n) (x ∷ xs) = ap (λ z. f x ∷ z) (take-map f n xs)

-- the first of the lines are those of the first emissions
pub lines-first : (name : List ℕ) (s : SystemRow) (side : Side) (turns : List (Turn Frame)) (xs later : List (List ℕ))
    → lines_on name s side turns ≡ xs ++ later →
    (newer : List (Turn Frame)) × (earlier : List (Turn Frame)) × (turns ≡ newer ++ earlier)
    × (lines_on name s side earlier ≡ xs)
lines-first name s side [] [] later h = ([], [], refl, refl)
lines-first name s side [] (x ∷ xs) later h = absurd (cc h)
lines-first name s side (turn ∷ turns) xs later h = elim (split_last later) [
  | inl none ↦ ([], turn ∷ turns, refl, h ∙ ap (λ z. xs ++ z) none ∙ append-nil xs)
  | inr some ↦ (let moved : lines_on name s side turns ++ line_on name s side turn ∷ [] ≡ (xs ++ some.0)
      ++ some.1 ∷ [] = h ∙ ap (λ z. xs ++ z) some.2 ∙ sym (append_assoc xs some.0 (some.1 ∷ [])) in
      let same = snoc-same (lines_on name s side turns) (xs ++ some.0) (line_on name s side turn) some.1 moved in
      let r = lines-first name s side turns xs some.0 same.0 in
      (turn ∷ r.0, r.1, ap (λ z. turn ∷ z) r.2, r.3))
]

module _ (laws : Laws) (t : Rows) (lawful : IsLawful t) (admitted : IsAdmitted t) (sender : ℕ)
    (s : SystemRow) (given : List (List ℕ)) (events : List Event)
    (sent : HasSent t sender s given events) where
  own-place : sender < t.own
  own-place = let within = slice_get_within t.systems sender s sent.stands in omega (arith, within, lawful.own)

  abbrev links : List LinkRow
  links = links_from t.links sender

  abbrev h : SenderHistory
  h = calls_in s links events 1200000000000000

  is_system : IsSystem t.profile s
  is_system = AllByRecursion-slice_get (IsSystem t.profile) t.systems sender s lawful.systems.each sent.stands

  build : AllByRecursion (IsBuildable s) (turns_in events)
  build = emitted.build laws t (among_others t lawful) admitted sender own-place s given events sent

  can : AllByRecursion (CanBeRead s) (turns_in events)
  can = emitted.can laws t (among_others t lawful) admitted sender own-place s given events sent

  fine : AllByRecursion (IsFine s) events
  fine = emitted.fine laws t (among_others t lawful) admitted sender own-place s given events sent

  abbrev IsReady : LinkRow → Type 0
  IsReady l = (i : ℕ) × (k : EmitsAll h i l (stream_of s l.vl (turns_in events)))
      × AreReleasesOfAll l (taken_by l.vl events) (own i k.emits.released)

  ready : (place : ℕ) (l : LinkRow) → slice_get t.links place ≡ Some l → l.from ≡ sender → IsReady l
  ready = emitted.ready laws t (among_others t lawful) admitted sender own-place s given events sent

  at-port : (side : Side) → lines_at side s.port (lines_of (send_text s events)) ≡ lines_on [] s side (turns_in events)
  at-port side = text-at-port [] tt s is_system.port.1 (λ own at line. says_at own at (line_says 0 line))
      (says-tests s is_system.port.0 is_system.port.1) side events fine

  pub text-elsewhere : (side : Side) (port : ℕ) → port ≢ s.port
      → lines_at side port (lines_of (send_text s events)) ≡ []
  text-elsewhere side port ne = text-off-port [] tt s is_system.port.1
      (λ own at line. says_at own at (line_says 0 line))
      (says-tests s is_system.port.0 is_system.port.1) side port events ne fine

  text-sound : length (lines_of (send_text s events)) ≤ most_lines
      → AreSound (lines_of (send_text s events)) (length (lines_of (send_text s events)))
  text-sound few = text-is-list s links is_system.port.0 is_system.port.1 events sent.are_events.follow fine few

  by-lines : (list : List (List ℕ)) → AreSound list (length list) → (side : Side)
      → AreSaidBy (arrivals_at side s.port (arrivals_of list (length list))) (lines_at side s.port list)
  by-lines list sound side =
      subst (λ (z : List (List ℕ)).
      AreSaidBy (arrivals_at side s.port (arrivals_of list (length list)))
      (lines_at side s.port z)) (take-all (length list) list (omega arith))
      (said-by side s.port list (length list) (omega arith) sound)

  side-merged : (list : List (List ℕ)) → AreSound list (length list) → (side : Side)
      → lines_at side s.port list ≡ lines_at side s.port (lines_of (send_text s events)) →
      AreSentAs s side (turns_in events) (arrivals_at side s.port (arrivals_of list (length list)))
  side-merged list sound side holds =
      let of_text =
      subst (λ (z : List (List ℕ)).
      AreSaidBy (arrivals_at side s.port (arrivals_of list (length list))) z)
      (holds ∙ at-port side)
      (by-lines list sound side) in
      sent-as s side is_system.port.0 is_system.port.1 (turns_in events)
      (arrivals_at side s.port (arrivals_of list (length list))) can of_text

  merged : (list : List (List ℕ)) → AreSound list (length list)
      → HoldsText s list (send_text s events) → (side : Side)
      → AreSentAs s side (turns_in events) (arrivals_at side s.port (arrivals_of list (length list)))
  merged list sound holds side = side-merged list sound side (holds side)

  as-taken : (system : ℕ) (l : LinkRow) (lines : List Line) (k : IsReady l)
      → reverse (messages_told system l.vl lines) ≡ filter (λ m. has_port t.ports system l.vl m.udp)
      (sent_list (own k.0 k.1.emits.released)) →
      AreToldAsTaken t system l (taken_by l.vl events) lines
  as-taken system l lines k is =
      let rs = own k.0 k.1.emits.released in
      let told_all : reverse (messages_told system l.vl lines)
      ≡ heard_of t system l (submissions_of rs) = is
      ∙ ap (filter (λ m. has_port t.ports system l.vl m.udp)) (sent-messages rs) in
      record {
        releases = rs;
        all = k.2;
        told = told_all;
        of_one_sub = λ one. told_all
            ∙ ap (heard_of t system l) (k.2.of_one_sub one);
      }

  sends : (l : LinkRow) → l.from ≡ sender → slice_get t.systems l.from ≡ Some s
  sends l from = subst (λ (z : ℕ). slice_get t.systems z ≡ Some s) (sym from) sent.stands

  told : (list : List (List ℕ)) (lines : List Line) → AreSound list (length list)
      → EachIsToldOnce t (arrivals_of list (length list)) lines
      → HoldsText s list (send_text s events) → EachIsToldAsTaken t sender events lines
  told list lines sound once holds system place receiver l stands link from to =
      let k = ready place l link from in
      as-taken system l lines k
      (laws.once t (arrivals_of list (length list)) lines h system place k.0 receiver l once
      stands link to (between-systems t system place receiver l lawful stands link) (sends l from) build
      (merged list sound holds) k.1.emits)

  -- ---- where a network fails in the middle

  first-merged : (list : List (List ℕ)) → AreSound list (length list)
      → ((side : Side) → HoldsFirst s side list (send_text s events))
      → IsMergedSoFar s (turns_in events) (arrivals_of list (length list))
  first-merged list sound holds side =
      let first = lines-first [] s side (turns_in events) (lines_at side s.port list) (holds side).0
      (sym (at-port side) ∙ (holds side).1) in
      let of_text = subst (λ (z : List (List ℕ)).
      AreSaidBy (arrivals_at side s.port (arrivals_of list (length list))) z) (sym first.3)
      (by-lines list sound side) in
      let can_first = all-earlier (CanBeRead s) first.0 first.1
      (subst (λ (z : List (Turn Frame)). AllByRecursion (CanBeRead s) z) first.2 can) in (
        first.0,
        first.1,
        first.2,
        sent-as s side is_system.port.0 is_system.port.1 first.1
            (arrivals_at side s.port (arrivals_of list (length list))) can_first of_text,
      )

  told-first : (list : List (List ℕ)) (lines : List Line) → AreSound list (length list)
      → EachIsToldOnceSoFar t (arrivals_of list (length list)) lines
      → ((side : Side) → HoldsFirst s side list (send_text s events)) →
      (system place : ℕ) (receiver : SystemRow) (l : LinkRow) → slice_get t.systems system
      ≡ Some receiver → slice_get t.links place ≡ Some l → (from : l.from ≡ sender)
      → is_to system l ≡ true → (k : IsReady l) →
      reverse (messages_told system l.vl lines) ≡ filter (λ m. has_port t.ports system l.vl m.udp)
      (take (most_come t l (arrivals_of list (length list))) (sent_list (own k.0 k.1.emits.released)))
  told-first list lines sound once holds system place receiver l stands link from to k =
      laws.so_far t (arrivals_of list (length list)) lines h system place k.0 receiver l once stands
      link to (between-systems t system place receiver l lawful stands link) (sends l from) build
      (first-merged list sound holds) k.1.emits

  told-so-far : (list : List (List ℕ)) (lines : List Line) → AreSound list (length list)
      → EachIsToldOnceSoFar t (arrivals_of list (length list)) lines
      → ((side : Side) → HoldsFirst s side list (send_text s events)) →
      (system place : ℕ) (receiver : SystemRow) (l : LinkRow) → slice_get t.systems system
      ≡ Some receiver → slice_get t.links place ≡ Some l → l.from ≡ sender → is_to system l ≡ true →
      AreToldSoFar t system l (taken_by l.vl events) (most_come t l (arrivals_of list (length list))) lines
  told-so-far list lines sound once holds system place receiver l stands link from to =
      let k = ready place l link from in
      let n = most_come t l (arrivals_of list (length list)) in
      let rs = own k.0 k.1.emits.released in
      record {
        releases = rs;
        all = k.2;
        told = told-first list lines sound once holds system place receiver l stands link from to k
            ∙ ap (λ ms. filter (λ m. has_port t.ports system l.vl m.udp) (take n ms))
            (sent-messages rs) ∙ ap (filter (λ m. has_port t.ports system l.vl m.udp))
            (take-map (λ s. s.message) n (submissions_of rs));
      }

  told-by-one : (list : List (List ℕ)) (lines : List Line) → AreSound list (length list)
      → EachIsToldOnceSoFar t (arrivals_of list (length list)) lines
      → ((side : Side) → HoldsFirst s side list (send_text s events)) →
      (whole : Side) → lines_at whole s.port list
      ≡ lines_at whole s.port (lines_of (send_text s events))
      → EachIsToldAsTaken t sender events lines
  told-by-one list lines sound once holds whole all_come system place receiver l stands link from to =
      let k = ready place l link from in
      let enough = laws.enough t (arrivals_of list (length list)) h k.0 l whole (sends l from) build
      (side-merged list sound whole all_come) k.1.emits in
      as-taken system l lines k
      (told-first list lines sound once holds system place receiver l stands link from to k
      ∙ ap (filter (λ m. has_port t.ports system l.vl m.udp)) enough)

pub taken-so-far : Laws → TakenIsToldSoFar
taken-so-far laws t list lines lawful admitted sound once sender s given events sent holds =
    told-so-far laws t lawful admitted sender s given events sent list lines sound once holds

pub taken-by-one : Laws → TakenIsToldByOneSide
taken-by-one laws t list lines lawful admitted sound once sender s given events sent holds whole
    all_come = told-by-one laws t lawful admitted sender s given events sent list lines sound once
    holds whole all_come

pub taken-is-told : Laws → TakenIsToldOnce
taken-is-told laws t list lines lawful admitted sound once sender s given events sent holds =
    told laws t lawful admitted sender s given events sent list lines sound once holds

pub texts-are-lists : Laws → TextsAreLists
texts-are-lists laws t sender s given events lawful admitted sent few =
    text-sound laws t lawful admitted sender s given events sent few

-- ---- of the two runs

pub written-is-sent : WrittenIsSent
written-is-sent t sender s given text sends stands sent early = (
  record {
    stands = stands;
    sound = sent.sound;
    are_events = sent.writes.are_events;
    are_done = sent.writes.are_done;
    early = early;
  },
  sent.writes.written,
)

pub runs-tell-taken : Laws → RunsTellTakenOnce
runs-tell-taken laws t sender s given text bytes old new sends replays lawful admitted stands sent early holds tells =
    let w = written-is-sent t sender s given text sends stands sent early in
    taken-is-told laws t (lines_of bytes) tells.promised.lines lawful admitted tells.sound tells.promised.once sender
    s (lines_of given) sent.writes.events w.0
    (subst (λ (z : List ℕ). HoldsText s (lines_of bytes) z) w.1 holds)
