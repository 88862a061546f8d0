-- What is emitted next, and what is released before a time, is one thing, by the calls alone.
use Rattle.std.proofs.Common.{◌≡◌, ℕ, ◌+◌, ◌<◌, true, false, List, [], ◌∷◌, ◌++◌, length, Some, inl}
use Rattle.std.proofs.Common.{inr, refl, sym, ap, subst, ◌∙◌, arith}
use Rattle.std.specs.List.{slice_get, AllByRecursion}
use Rattle.std.proofs.lemmas.Option.{slice_get_within}
use Rattle.afdx_frame.proofs.ListLemmas.{slice_get-one}
use Rattle.afdx_config.specs.Rows.{LinkRow}
use Rattle.afdx_port.specs.Schedule.{Entry, Turn, IsNext, has_turn, is_past, lasting}
use Rattle.afdx_send.specs.Emissions.{LinkRelease, own_submissions, AreAllReleases}
use Rattle.afdx_send.specs.Emissions.{AreReleasedBefore, entries_of, IsNextEmission}
use Rattle.afdx_send.specs.Frames.{Frame}
use Rattle.afdx_send.specs.Releases.{Submission}
use Rattle.afdx_send.specs.Sender.{SenderHistory, IsNextIn, AreAllEmitted}
use Rattle.afdx_send.proofs.EmitLemmas.{are_ours, get_more, more_of}
use Rattle.afdx_send.proofs.LawLemmas.{GoInOrder, next_place, order_after}
use Rattle.afdx_send.proofs.NextLemmas.{AllSubs, comparable, append_append, split_last, all_first}

-- ---- one next emission

turn-is : (s d : Turn Frame) → s.place ≡ d.place → s.entry ≡ d.entry → s.moment ≡ d.moment
    → s.end ≡ d.end → s.too_old ≡ d.too_old → s ≡ d
turn-is s d a b c e f =
    ap (λ z. record s { place = z }) a ∙ ap (λ z. record s { place = d.place; entry = z }) b
    ∙ ap (λ z. record s { place = d.place; entry = d.entry; moment = z }) c
    ∙ ap (λ z. record s { place = d.place; entry = d.entry; moment = d.moment; end = z }) e
    ∙ ap (λ z. record {
      place = d.place;
      entry = d.entry;
      moment = d.moment;
      end = d.end;
      too_old = z;
    }) f

same-turn : (b : ℕ) (es more : List (Entry Frame)) (earlier : List (Turn Frame)) (s d : Turn Frame)
    → IsNext b es earlier s → IsNext b (es ++ more) earlier d → s.place ≡ d.place → s ≡ d
same-turn b es more earlier s d n k place =
    let there = subst (λ (z : ℕ). slice_get (es ++ more) z ≡ Some s.entry) place
    (get_more es more s.place s.entry n.own.stands) in
    let entry : s.entry ≡ d.entry = slice_get-one (es ++ more) d.place s.entry d.entry there k.own.stands in
    let at : s.entry.time ≡ d.entry.time = ap (λ e. e.time) entry in
    let come_s = n.come in
    let come_d = k.come in
    let le = n.least d.moment s.place s.entry n.own (omega (arith, at, come_d)) k.after in
    let ge = k.least s.moment d.place d.entry k.own (omega (arith, at, come_s)) n.after in
    let moment : s.moment ≡ d.moment = omega (arith, le, ge) in
    let old : s.too_old ≡ d.too_old = n.drops
    ∙ ap (λ e. is_past e.longest_wait e.time s.moment) entry
    ∙ ap (λ m. is_past d.entry.longest_wait d.entry.time m) moment ∙ sym k.drops in
    let end : s.end ≡ d.end = n.lasts ∙ ap (λ m. m + lasting b s.too_old s.entry.bytes) moment
    ∙ ap (λ o. d.moment + lasting b o s.entry.bytes) old
    ∙ ap (λ e. d.moment + lasting b d.too_old e.bytes) entry ∙ sym k.lasts in
    turn-is s d place entry moment end old

-- more releases are more entries
begins : (links : List LinkRow) (taken : List (List Submission)) (xs ys later : List LinkRelease)
    → ys ≡ later ++ xs → AreAllReleases links taken ys → (more : List (Entry Frame))
    × (entries_of ys ≡ entries_of xs ++ more)
begins links taken xs ys later is h =
    let m = more_of links taken xs later 0 (λ i l q g k. omega arith)
    (subst (λ (z : List LinkRelease). AreAllReleases links taken z) is h) in
    (m.more, ap entries_of is ∙ m.is)

pub one-emission : (b : ℕ) (links : List LinkRow) (taken : List (List Submission))
    (emitted : List (Turn Frame)) (s d : Turn Frame) → AllSubs links taken
    → GoInOrder (length emitted) emitted →
    IsNextEmission b links taken emitted s → IsNextEmission b links taken emitted d → s ≡ d
one-emission b links taken emitted s d subs order n k =
    let at_s = next_place b (length emitted) (entries_of n.released) emitted s (are_ours n.released) order n.next in
    let at_d = next_place b (length emitted) (entries_of k.released) emitted d (are_ours k.released) order k.next in
    elim (comparable links taken n.released k.released subs n.are_releases k.are_releases) [
      | inl r ↦ (let m = begins links taken n.released k.released r.0 r.1 k.are_releases in
          same-turn b (entries_of n.released) m.0 emitted s d n.next
          (subst (λ (es : List (Entry Frame)). IsNext b es emitted d) m.1 k.next) (at_s ∙ sym at_d))
      | inr r ↦ (let m = begins links taken k.released n.released r.0 r.1 n.are_releases in
          sym (same-turn b (entries_of k.released) m.0 emitted d s k.next
          (subst (λ (es : List (Entry Frame)). IsNext b es emitted s) m.1 n.next) (at_d ∙ sym at_s)))
    ]

pub no-turns : GoInOrder 0 []
no-turns = record { yes = λ p lt. absurd (omega (arith, lt)); no = λ p le. refl }

pub order-next : (b : ℕ) (links : List LinkRow) (taken : List (List Submission))
    (emitted : List (Turn Frame)) (s : Turn Frame) → GoInOrder (length emitted) emitted
    → IsNextEmission b links taken emitted s →
    GoInOrder (length (s ∷ emitted)) (s ∷ emitted)
order-next b links taken emitted s order n =
    let place = next_place b (length emitted) (entries_of n.released) emitted s (are_ours n.released) order n.next in
    let count : length emitted + 1 ≡ length (s ∷ emitted) = omega arith in
    subst (λ (z : ℕ). GoInOrder z (s ∷ emitted)) count (order_after (length emitted) emitted s place order)

-- ---- one list of releases before a time

held-by : {Y : Type 0} (P : Y → Type 0) (front : List Y) (x : Y) (rest : List Y)
    → AllByRecursion P (front ++ x ∷ rest) → P x
held-by P [] x rest all = all.0
held-by P (y ∷ front) x rest all = held-by P front x rest all.1

none-later : (links : List LinkRow) (taken : List (List Submission)) (t : ℕ)
    (these those later : List LinkRelease) → those ≡ later ++ these
    → AreReleasedBefore links taken t these → AreReleasedBefore links taken t those → those ≡ these
none-later links taken t these those later is a b = elim (split_last later) [
  | inl none ↦ is ∙ ap (λ z. z ++ these) none
  | inr some ↦ (let whole : those ≡ some.0 ++ (some.1 ∷ these) = is ∙ ap (λ z. z ++ these) some.2
      ∙ append_append some.0 (some.1 ∷ []) these in
      let first = all_first links taken some.0 (some.1 ∷ these)
      (subst (λ (z : List LinkRelease). AreAllReleases links taken z) whole b.are_releases) in
      let late = a.no_more some.1.place some.1.row some.1.release first.0.stands first.0.next in
      let soon = held-by (λ x. x.release.time < t) some.0 some.1 these
      (subst (λ (z : List LinkRelease). AllByRecursion (λ x. x.release.time < t) z) whole b.before) in
      absurd (omega (arith, late, soon)))
]

pub released-once : (links : List LinkRow) (taken : List (List Submission)) (t : ℕ)
    (these those : List LinkRelease) → AllSubs links taken → AreReleasedBefore links taken t these
    → AreReleasedBefore links taken t those → these ≡ those
released-once links taken t these those subs a b =
    elim (comparable links taken these those subs a.are_releases b.are_releases) [
      | inl r ↦ sym (none-later links taken t these those r.0 r.1 a b)
      | inr r ↦ none-later links taken t those these r.0 r.1 b a
    ]

-- ---- where all is emitted there is no next emission

none-after : (h : SenderHistory) (done : AreAllEmitted h) (xs later : List LinkRelease)
    → xs ≡ later ++ done.released → AreAllReleases h.links h.taken xs → xs ≡ done.released
none-after h done xs later is are = elim (split_last later) [
  | inl none ↦ is ∙ ap (λ z. z ++ done.released) none
  | inr some ↦ (let x = some.1 in
      let whole : xs ≡ some.0 ++ (x ∷ done.released) = is ∙ ap (λ z. z ++ done.released) some.2
      ∙ append_append some.0 (x ∷ []) done.released in
      let first = all_first h.links h.taken some.0 (x ∷ done.released)
      (subst (λ (z : List LinkRelease). AreAllReleases h.links h.taken z) whole are) in
      let free = first.0.next.own.without in
      let gone = done.all_released x.place x.release.place x.row first.0.stands
      (slice_get_within (own_submissions h.taken x.place) x.release.place x.release.submission
      first.0.next.own.stands) in
      absurd (let e : true ≡ false = sym gone ∙ free in cc e))
]

has-gone : (h : SenderHistory) (done : AreAllEmitted h) (s : Turn Frame)
    → slice_get (entries_of done.released) s.place ≡ Some s.entry → has_turn h.emitted s.place ≡ false → ⊥
has-gone h done s stands free =
    let gone = done.schedule.all_have_turns s.place
    (slice_get_within (entries_of done.released) s.place s.entry stands) in
    let e : true ≡ false = sym gone ∙ free in cc e

pub none-is-next : (h : SenderHistory) (s : Turn Frame) → AllSubs h.links h.taken → AreAllEmitted h → IsNextIn h s → ⊥
none-is-next h s subs done n =
    elim (comparable h.links h.taken n.released done.released subs n.are_releases done.are_releases) [
      | inl r ↦ (let m = begins h.links h.taken n.released done.released r.0 r.1 done.are_releases in
          let there = get_more (entries_of n.released) m.0 s.place s.entry n.next.own.stands in
          has-gone h done s (subst (λ (es : List (Entry Frame)). slice_get es s.place ≡ Some s.entry)
          (sym m.1) there) n.next.own.without)
      | inr r ↦ (let same = none-after h done n.released r.0 r.1 n.are_releases in
          has-gone h done s (subst
          (λ (z : List LinkRelease). slice_get (entries_of z) s.place ≡ Some s.entry) same
          n.next.own.stands) n.next.own.without)
    ]
