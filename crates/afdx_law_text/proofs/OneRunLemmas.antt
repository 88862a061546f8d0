-- What a run that sends tells is determined by its list.
use Rattle.std.proofs.Common.{◌≡◌, ℕ, ◌+◌, ◌<◌, ◌≤◌, ◌==◌, if◌then◌else◌, List, [], ◌∷◌, ◌++◌}
use Rattle.std.proofs.Common.{length, map, Option, Some, None, inl, inr, refl, sym, ap, subst, ◌∙◌}
use Rattle.std.proofs.Common.{arith, append_assoc, append-nil}
use Rattle.std.specs.List.{slice_get, AllByRecursion}
use Rattle.std.proofs.lemmas.Bool.{cases_lt}
use Rattle.std.proofs.lemmas.List.{length-append}
use Rattle.afdx_frame.proofs.ListLemmas.{AllByRecursion-slice_get}
use Rattle.afdx_config.specs.Admission.{byte_ns, links_from}
use Rattle.afdx_config.specs.Lawful.{AreDistinct}
use Rattle.afdx_config.specs.Rows.{SystemRow, LinkRow}
use Rattle.afdx_input_lines.specs.SubmissionLines as list
use Rattle.afdx_port.specs.Schedule.{Turn, end_of}
use Rattle.afdx_send.specs.Complete.{IsFor}
use Rattle.afdx_send.specs.Emissions.{LinkRelease, own, own_submissions}
use Rattle.afdx_send.specs.Frames.{Frame}
use Rattle.afdx_send.specs.Releases.{Submission, count_without}
use Rattle.afdx_send.specs.Sender.{SenderHistory, HasLink, IsSub, AreUnreleased}
use Rattle.afdx_send.specs.declared.fault.SendFault.{SendFault}
use Rattle.afdx_send.specs.declared.fault.SendFault.TheVariants.{NotMyLink, NoSuchSub, Empty}
use Rattle.afdx_send.specs.declared.fault.SendFault.TheVariants.{TooLarge, QueueFull, Memory}
use Rattle.afdx_send.proofs.LawLemmas.{GoInOrder}
use Rattle.afdx_send.proofs.NewLemmas.{distinct_links}
use Rattle.afdx_send.proofs.NextLemmas.{AllSubs, split_last}
use Rattle.afdx_send.proofs.OneLemmas.{one-emission, no-turns, order-next, released-once, none-is-next}
use Rattle.afdx_input_sources.specs.Listed.{Handed}
use Rattle.afdx_command_tables.specs.sending.Events.{Event, Emitted, Submitted, submissions_in}
use Rattle.afdx_command_tables.specs.sending.Events.{turns_in, taken_by, calls_in, IsAnswered, EachFollows}
use Rattle.afdx_command_tables.specs.sending.Events.{AreDone, IsAtSubmission}
use Rattle.afdx_command_tables.specs.Counts.{with_lines}
use Rattle.afdx_command_tables.specs.sending.Text.{send_text, send_counts}
use Rattle.afdx_command_tables.specs.declared.summary.Summary.{Summary}
use Rattle.afdx_law_text.specs.SentLaws.{EventsAreOne, SendsAreOne}
use Rattle.afdx_law_text.specs.Stops.{EventsSoFarAreOne, EventsSoFarBegin, StoppedSendsAreOne}
use Rattle.afdx_law_text.proofs.TakenLemmas.{same-place, same-row, taken-each, own-taken}

-- ---- a submission has one answer

-- how many of the five checks it comes to
abbrev stage : Option SendFault → ℕ
stage (Some NotMyLink) = 1
stage (Some NoSuchSub) = 2
stage (Some Empty) = 3
stage (Some TooLarge) = 4
stage (Some QueueFull) = 5
stage None = 6
stage (Some Memory) = 7

abbrev at_stage : ℕ → Option SendFault
at_stage n =
    if n == 1 then Some NotMyLink else if n == 2 then Some NoSuchSub else if n == 3 then Some Empty
    else if n == 4 then Some TooLarge else if n == 5 then Some QueueFull else if n == 6 then
    None else Some Memory

back : (f : Option SendFault) → at_stage (stage f) ≡ f
back (Some NotMyLink) = refl
back (Some NoSuchSub) = refl
back (Some Empty) = refl
back (Some TooLarge) = refl
back (Some QueueFull) = refl
back None = refl
back (Some Memory) = refl

module _ (h : SenderHistory) (distinct : AreDistinct (λ l. l.vl) h.links) (subs : AllSubs h.links h.taken)
    (x : list.Submission) where
  row-of : (i j : ℕ) (a b : LinkRow) → HasLink h x.vl i a → HasLink h x.vl j b → a ≡ b
  row-of i j a b p q = same-row h.links distinct i j a b p.0 q.0 (p.1 ∙ sym q.1)

  place-of : (i j : ℕ) (a b : LinkRow) → HasLink h x.vl i a → HasLink h x.vl j b → i ≡ j
  place-of i j a b p q = same-place h.links distinct i j a b p.0 q.0 (p.1 ∙ sym q.1)

  counted-once : (place m n : ℕ) → AreUnreleased h x.time place x.sub m → AreUnreleased h x.time place x.sub n → m ≡ n
  counted-once place m n a b =
      let same = released-once h.links h.taken x.time a.0 b.0 subs a.1 b.1 in
      sym a.2 ∙ ap (λ (z : List LinkRelease). count_without (own place z) x.sub 0
      (own_submissions h.taken place)) same ∙ b.2

  -- it passes the checks before
  link-of : (g : Option SendFault) → IsAnswered h x g → 2 ≤ stage g → (i : ℕ) × (l : LinkRow) × HasLink h x.vl i l
  link-of (Some NotMyLink) b le = absurd (omega (arith, le))
  link-of (Some NoSuchSub) b le = (b.1.0, b.1.1, b.1.2)
  link-of (Some Empty) b le = (b.1.0, b.1.1, b.1.2)
  link-of (Some TooLarge) b le = (b.1.0, b.1.1, b.1.2)
  link-of (Some QueueFull) b le = (b.1.0, b.1.1, b.1.2)
  link-of None b le = (b.0, b.1.row, b.1.link)
  link-of (Some Memory) b le = absurd (b.0 refl)

  sub-of : (g : Option SendFault) → IsAnswered h x g → 3 ≤ stage g → (i : ℕ) × (l : LinkRow)
      × HasLink h x.vl i l × IsSub l x.sub
  sub-of (Some NotMyLink) b le = absurd (omega (arith, le))
  sub-of (Some NoSuchSub) b le = absurd (omega (arith, le))
  sub-of (Some Empty) b le = (b.1.0, b.1.1, b.1.2, b.1.3)
  sub-of (Some TooLarge) b le = (b.1.0, b.1.1, b.1.2, b.1.3)
  sub-of (Some QueueFull) b le = (b.1.0, b.1.1, b.1.2, b.1.3)
  sub-of None b le = (b.0, b.1.row, b.1.link, b.1.sub)
  sub-of (Some Memory) b le = absurd (b.0 refl)

  some-of : (g : Option SendFault) → IsAnswered h x g → 4 ≤ stage g → 1 ≤ length x.payload
  some-of (Some NotMyLink) b le = absurd (omega (arith, le))
  some-of (Some NoSuchSub) b le = absurd (omega (arith, le))
  some-of (Some Empty) b le = absurd (omega (arith, le))
  some-of (Some TooLarge) b le = b.1.4
  some-of (Some QueueFull) b le = b.1.4
  some-of None b le = b.1.some
  some-of (Some Memory) b le = absurd (b.0 refl)

  fits-of : (g : Option SendFault) → IsAnswered h x g → 5 ≤ stage g → (i : ℕ) × (l : LinkRow)
      × HasLink h x.vl i l × (length x.payload + 47 ≤ l.lmax)
  fits-of (Some NotMyLink) b le = absurd (omega (arith, le))
  fits-of (Some NoSuchSub) b le = absurd (omega (arith, le))
  fits-of (Some Empty) b le = absurd (omega (arith, le))
  fits-of (Some TooLarge) b le = absurd (omega (arith, le))
  fits-of (Some QueueFull) b le = (b.1.0, b.1.1, b.1.2, b.1.5)
  fits-of None b le = (b.0, b.1.row, b.1.link, b.1.fits)
  fits-of (Some Memory) b le = absurd (b.0 refl)

  room-of : (g : Option SendFault) → IsAnswered h x g → 6 ≤ stage g → (i : ℕ) × (l : LinkRow)
      × (n : ℕ) × HasLink h x.vl i l × AreUnreleased h x.time i x.sub n × (n < 64)
  room-of (Some NotMyLink) b le = absurd (omega (arith, le))
  room-of (Some NoSuchSub) b le = absurd (omega (arith, le))
  room-of (Some Empty) b le = absurd (omega (arith, le))
  room-of (Some TooLarge) b le = absurd (omega (arith, le))
  room-of (Some QueueFull) b le = absurd (omega (arith, le))
  room-of None b le = (b.0, b.1.row, b.1.count, b.1.link, b.1.unreleased, b.1.room)
  room-of (Some Memory) b le = absurd (b.0 refl)

  at-most : (g : Option SendFault) → IsAnswered h x g → stage g ≤ 6
  at-most (Some NotMyLink) b = omega arith
  at-most (Some NoSuchSub) b = omega arith
  at-most (Some Empty) b = omega arith
  at-most (Some TooLarge) b = omega arith
  at-most (Some QueueFull) b = omega arith
  at-most None b = omega arith
  at-most (Some Memory) b = absurd (b.0 refl)

  not-later : (f g : Option SendFault) → IsAnswered h x f → IsAnswered h x g → stage f < stage g → ⊥
  not-later (Some NotMyLink) g a b lt = (let k = link-of g b lt in a.1 k.0 k.1 k.2.0 k.2.1)
  not-later (Some NoSuchSub) g a b lt =
      (let k = sub-of g b lt in
      let row : a.1.1 ≡ k.1 = row-of a.1.0 k.0 a.1.1 k.1 a.1.2 k.2 in
      let low = k.3.0 in
      let high : x.sub ≤ a.1.1.subs = subst (λ (z : LinkRow). x.sub ≤ z.subs) (sym row) k.3.1 in
      elim a.1.3 [ inl none ↦ omega (arith, none, low) | inr over ↦ omega (arith, over, high) ])
  not-later (Some Empty) g a b lt = (let some = some-of g b lt in let none = a.1.4 in omega (arith, some, none))
  not-later (Some TooLarge) g a b lt =
      (let k = fits-of g b lt in
      let row : a.1.1 ≡ k.1 = row-of a.1.0 k.0 a.1.1 k.1 a.1.2 k.2 in
      let fits : length x.payload + 47 ≤ a.1.1.lmax =
      subst (λ (z : LinkRow). length x.payload + 47 ≤ z.lmax) (sym row) k.3 in
      let over = a.1.5 in
      omega (arith, fits, over))
  not-later (Some QueueFull) g a b lt =
      (let k = room-of g b lt in
      let place : k.0 ≡ a.1.0 = place-of k.0 a.1.0 k.1 a.1.1 k.3 a.1.2 in
      let same = counted-once a.1.0 k.2 a.1.6.0
      (subst (λ (z : ℕ). AreUnreleased h x.time z x.sub k.2) place k.4) a.1.6.1 in
      let room = k.5 in
      let full = a.1.6.2 in
      omega (arith, same, room, full))
  not-later None g a b lt = (let le = at-most g b in omega (arith, lt, le))
  not-later (Some Memory) g a b lt = a.0 refl

  pub one-answer : (f g : Option SendFault) → IsAnswered h x f → IsAnswered h x g → f ≡ g
  one-answer f g a b = elim (cases_lt (stage f) (stage g)) [
    | inl lt ↦ absurd (not-later f g a b lt)
    | inr ge ↦ elim (cases_lt (stage g) (stage f)) [
      | inl lt ↦ absurd (not-later g f b a lt)
      | inr le ↦ (let e : stage f ≡ stage g = omega (arith, ge, le) in sym (back f) ∙ ap at_stage e ∙ back g)
    ]
  ]

-- ---- lists

cut : {Y : Type 0} (xs bs cs : List Y) → xs ++ cs ≡ bs ++ cs → xs ≡ bs
cut [] [] cs h = refl
cut [] (b ∷ bs) cs h = absurd (let n = ap length h in let m = length-append bs cs in omega (arith, n, m))
cut (a ∷ xs) [] cs h = absurd (let n = ap length h in let m = length-append xs cs in omega (arith, n, m))
cut (a ∷ xs) (b ∷ bs) cs h =
    (let head : a ≡ b = cc h in let tail : xs ++ cs ≡ bs ++ cs = cc h in ap (λ z. z ∷ xs) head
    ∙ ap (λ z. b ∷ z) (cut xs bs cs tail))

last-same : {Y : Type 0} (xs ys : List Y) (x y : Y) → xs ++ x ∷ [] ≡ ys ++ y ∷ [] → x ≡ y
last-same [] [] x y h = cc h
last-same [] (b ∷ bs) x y h = absurd (let n = ap length h in let m = length-append bs (y ∷ []) in omega (arith, n, m))
last-same (a ∷ xs) [] x y h = absurd (let n = ap length h in let m = length-append xs (x ∷ []) in omega (arith, n, m))
last-same (a ∷ xs) (b ∷ bs) x y h = (let tail : xs ++ x ∷ [] ≡ bs ++ y ∷ [] = cc h in last-same xs bs x y tail)

-- ---- events

in-both : (m c : List Event) → submissions_in (m ++ c) ≡ submissions_in m ++ submissions_in c
in-both [] c = refl
in-both (Emitted turn ∷ m) c = in-both m c
in-both (Submitted x fault ∷ m) c = ap (λ (z : List Handed). x ∷ z) (in-both m c)

no-fewer : (e : Event) (c : List Event) → length (submissions_in c) ≤ length (submissions_in (e ∷ c))
no-fewer (Emitted turn) c = omega arith
no-fewer (Submitted x fault) c = omega arith

no-fact : (xs : List Handed) → AllByRecursion (λ x. Unit {0}) xs
no-fact [] = tt
no-fact (x ∷ xs) = (tt, no-fact xs)

module _ (s : SystemRow) (links : List LinkRow) (distinct : AreDistinct (λ l. l.vl) links) where
  all-subs : (events : List Event) → EachFollows s links events → AllSubs links (map (λ l. taken_by l.vl events) links)
  all-subs events follow i l at j m here =
      let taken = taken-each (λ l m. IsFor l m) (λ x. Unit {0}) (λ l x can q. can) s links distinct
      events follow (no-fact (submissions_in events)) i l at in
      (AllByRecursion-slice_get (IsFor l) (taken_by l.vl events) j m taken
      (subst (λ (z : List Submission). slice_get z j ≡ Some m)
      (own-taken (λ vl. taken_by vl events) links i l at) here)).sub

  in-order : (events : List Event) → EachFollows s links events → GoInOrder (length (turns_in events)) (turns_in events)
  in-order [] follow = no-turns
  in-order (Emitted turn ∷ before) follow =
      order-next (byte_ns s) links (map (λ l. taken_by l.vl before) links) (turns_in before) turn
      (in-order before follow.1) follow.0
  in-order (Submitted x fault ∷ before) follow = in-order before follow.1

  rest-follows : (m c : List Event) → EachFollows s links (m ++ c) → EachFollows s links c
  rest-follows [] c h = h
  rest-follows (e ∷ m) c h = rest-follows m c h.1

  ends-grow : (m c : List Event) → EachFollows s links (m ++ c) → end_of (turns_in c) ≤ end_of (turns_in (m ++ c))
  ends-grow [] c h = omega arith
  ends-grow (Emitted turn ∷ m) c h =
      (let le = ends-grow m c h.1 in let after = h.0.next.after in let lasts = h.0.next.lasts in
      omega (arith, le, after, lasts))
  ends-grow (Submitted x fault ∷ m) c h = ends-grow m c h.1

  -- a submission comes after the emissions before it
  comes-after : (end : ℕ) (y : Handed) (zs : List Handed) (m c : List Event)
      → end ≤ end_of (turns_in c) → EachFollows s links (m ++ c) → submissions_in m ≡ zs ++ y ∷ []
      → end ≤ y.submission.time
  comes-after end y [] [] c le h is = absurd (cc is)
  comes-after end y (z ∷ zs) [] c le h is = absurd (cc is)
  comes-after end y zs (Emitted turn ∷ m) c le h is = comes-after end y zs m c le h.1 is
  comes-after end y [] (Submitted x fault ∷ m) c le h is =
      (let same : x ≡ y = cc is in
      let grow = ends-grow m c h.1 in
      let late : end_of (turns_in (m ++ c)) ≤ x.submission.time = h.0.in_time in
      let at : x.submission.time ≡ y.submission.time = ap (λ (z : Handed). z.submission.time) same in
      omega (arith, le, grow, late, at))
  comes-after end y (z ∷ zs) (Submitted x fault ∷ m) c le h is =
      (let tail : submissions_in m ≡ zs ++ y ∷ [] = cc is in comes-after end y zs m c le h.1 tail)

  -- an emission can't stand where a submission does
  not-both : (m n c : List Event) (turn : Turn Frame) (y : Handed) (fault : Option SendFault)
      → EachFollows s links (m ++ Emitted turn ∷ c) → EachFollows s links (n ++ Submitted y fault ∷ c) →
      submissions_in (m ++ Emitted turn ∷ c) ≡ submissions_in (n ++ Submitted y fault ∷ c) → ⊥
  not-both m n c turn y fault h k is =
      let here = rest-follows m (Emitted turn ∷ c) h in
      let there = rest-follows n (Submitted y fault ∷ c) k in
      let whole : submissions_in m ++ submissions_in c ≡ (submissions_in n ++ y ∷ []) ++ submissions_in c =
      sym (in-both m (Emitted turn ∷ c)) ∙ is ∙ in-both n (Submitted y fault ∷ c)
      ∙ sym (append_assoc (submissions_in n) (y ∷ []) (submissions_in c)) in
      let le = comes-after turn.end y (submissions_in n) m (Emitted turn ∷ c) (omega arith) h
      (cut (submissions_in m) (submissions_in n ++ y ∷ []) (submissions_in c) whole) in
      let lt = there.0.no_more turn here.0 in
      omega (arith, le, lt)

  same-event : (m n c : List Event) (e d : Event) → EachFollows s links (m ++ e ∷ c)
      → EachFollows s links (n ++ d ∷ c) → submissions_in (m ++ e ∷ c) ≡ submissions_in (n ++ d ∷ c)
      → e ≡ d
  same-event m n c (Emitted t) (Emitted u) h k is =
      let here = rest-follows m (Emitted t ∷ c) h in
      let there = rest-follows n (Emitted u ∷ c) k in
      ap Emitted (one-emission (byte_ns s) links (map (λ l. taken_by l.vl c) links) (turns_in c) t u
      (all-subs c here.1) (in-order c here.1) here.0 there.0)
  same-event m n c (Emitted t) (Submitted y g) h k is = absurd (not-both m n c t y g h k is)
  same-event m n c (Submitted x f) (Emitted u) h k is = absurd (not-both n m c u x f k h (sym is))
  same-event m n c (Submitted x f) (Submitted y g) h k is =
      let here = rest-follows m (Submitted x f ∷ c) h in
      let there = rest-follows n (Submitted y g ∷ c) k in
      let whole : (submissions_in m ++ x ∷ []) ++ submissions_in c ≡ (submissions_in n ++ y ∷ []) ++ submissions_in c =
      append_assoc (submissions_in m) (x ∷ []) (submissions_in c)
      ∙ sym (in-both m (Submitted x f ∷ c)) ∙ is ∙ in-both n (Submitted y g ∷ c)
      ∙ sym (append_assoc (submissions_in n) (y ∷ []) (submissions_in c)) in
      let same : x ≡ y = last-same (submissions_in m) (submissions_in n) x y
      (cut (submissions_in m ++ x ∷ []) (submissions_in n ++ y ∷ []) (submissions_in c) whole) in
      let answer : f ≡ g = one-answer (calls_in s links c x.submission.time) distinct
      (all-subs c here.1) x.submission f g here.0.answered
      (subst (λ (z : Handed). IsAnswered (calls_in s links c z.submission.time) z.submission g)
      (sym same) there.0.answered) in
      ap (λ (z : Handed). Submitted z f) same ∙ ap (Submitted y) answer

  -- after all events of these submissions there is no further one
  ends-there : (m c : List Event) (e : Event) → EachFollows s links (m ++ e ∷ c)
      → submissions_in (m ++ e ∷ c) ≡ submissions_in c → AreDone s links c → ⊥
  ends-there m c (Emitted turn) h is done =
      let here = rest-follows m (Emitted turn ∷ c) h in
      none-is-next (calls_in s links c 1200000000000000) turn (all-subs c here.1) done here.0
  ends-there m c (Submitted x fault) h is done =
      let n = ap length (sym (in-both m (Submitted x fault ∷ c)) ∙ is) in
      let k = length-append (submissions_in m) (x ∷ submissions_in c) in
      omega (arith, n, k)

  -- nor after the last of them, where that is the latest event
  stops-there : (m c : List Event) (e : Event) → IsAtSubmission (m ++ e ∷ c)
      → submissions_in (m ++ e ∷ c) ≡ submissions_in c → ⊥
  stops-there [] c (Emitted turn) at is = at
  stops-there [] c (Submitted x fault) at is = let n = ap length is in omega (arith, n)
  stops-there (Emitted turn ∷ m) c e at is = at
  stops-there (Submitted x fault ∷ m) c e at is =
      let n = ap length is in
      let k = ap length (in-both m (e ∷ c)) in
      let j = length-append (submissions_in m) (submissions_in (e ∷ c)) in
      let i = no-fewer e c in
      omega (arith, n, k, j, i)

  -- the first of one's events are the first of the others
  begins-both : (ones others : List Event) → EachFollows s links ones → EachFollows s links others
      → submissions_in ones ≡ submissions_in others
      → ((m : List Event) (e : Event) → ones ≡ m ++ e ∷ others → ⊥) →
      (c m : List Event) → ones ≡ m ++ c → (n : List Event) × (others ≡ n ++ c)
  begins-both ones others h k is ends [] m e = (others, sym (append-nil others))
  begins-both ones others h k is ends (d ∷ c) m e =
      let r = begins-both ones others h k is ends c (m ++ d ∷ []) (e ∙ sym (append_assoc m (d ∷ []) c)) in
      let follow = subst (λ (z : List Event). EachFollows s links z) e h in
      elim (split_last r.0) [
        | inl none ↦ absurd (let all : others ≡ c = r.1 ∙ ap (λ (z : List Event). z ++ c) none in
            ends m d (e ∙ ap (λ (z : List Event). m ++ d ∷ z) (sym all)))
        | inr some ↦ (let whole : others ≡ some.0 ++ some.1 ∷ c = r.1
            ∙ ap (λ (z : List Event). z ++ c) some.2 ∙ append_assoc some.0 (some.1 ∷ []) c in
            let same : d ≡ some.1 = same-event m some.0 c d some.1 follow
            (subst (λ (z : List Event). EachFollows s links z) whole k)
            (sym (ap submissions_in e) ∙ is ∙ ap submissions_in whole) in
            (some.0, whole ∙ ap (λ (z : Event). some.0 ++ z ∷ c) (sym same)))
      ]

  pub one-run : (ones others : List Event) → EachFollows s links ones → EachFollows s links others
      → submissions_in ones ≡ submissions_in others
      → ((m : List Event) (e : Event) → others ≡ m ++ e ∷ ones → ⊥)
      → ((m : List Event) (e : Event) → ones ≡ m ++ e ∷ others → ⊥) → ones ≡ others
  one-run ones others h k is ends_ones ends_others =
      let a = begins-both ones others h k is ends_others ones [] refl in
      let b = begins-both others ones k h (sym is) ends_ones others [] refl in
      let m = ap length a.1 ∙ length-append a.0 ones in
      let n = ap length b.1 ∙ length-append b.0 others in
      let none : length a.0 ≡ 0 = omega (arith, m, n) in
      sym (a.1 ∙ ap (λ (z : List Event). z ++ ones) (empty a.0 none))
    where
      empty : (xs : List Event) → length xs ≡ 0 → xs ≡ []
      empty [] e = refl
      empty (x ∷ xs) e = absurd (omega (arith, e))

  pub done-once : (ones others : List Event) → EachFollows s links ones → EachFollows s links others
      → submissions_in ones ≡ submissions_in others → AreDone s links ones → AreDone s links others
      → ones ≡ others
  done-once ones others h k is done_ones done_others =
      one-run ones others h k is
      (λ m e eq. ends-there m ones e (subst (λ (z : List Event). EachFollows s links z) eq k)
      (sym (ap submissions_in eq) ∙ sym is) done_ones)
      (λ m e eq. ends-there m others e (subst (λ (z : List Event). EachFollows s links z) eq h)
      (sym (ap submissions_in eq) ∙ is) done_others)

  -- up to a submission, too
  pub stopped-once : (ones others : List Event) → EachFollows s links ones → EachFollows s links others
      → submissions_in ones ≡ submissions_in others → IsAtSubmission ones → IsAtSubmission others
      → ones ≡ others
  stopped-once ones others h k is at_ones at_others =
      one-run ones others h k is
      (λ m e eq. stops-there m ones e (subst IsAtSubmission eq at_others) (sym (ap submissions_in eq) ∙ sym is))
      (λ m e eq. stops-there m others e (subst IsAtSubmission eq at_ones) (sym (ap submissions_in eq) ∙ is))

-- events up to the last of the older submissions
pub record UpTo (past : List Handed) (events : List Event) : Type 0 where
  pub later : List Event
  pub first : List Event
  pub parts : events ≡ later ++ first
  pub submissions_are : submissions_in first ≡ past
  pub at_submission : IsAtSubmission first

up-to : (events : List Event) (more past : List Handed) → submissions_in events ≡ more ++ past → UpTo past events
up-to [] more past is = record {
  later = [];
  first = [];
  parts = refl;
  submissions_are = no-past more past is;
  at_submission = tt;
}
  where
    no-past : (more past : List Handed) → [] ≡ more ++ past → [] ≡ past
    no-past [] past is = is
    no-past (x ∷ more) past is = absurd (cc is)
up-to (Emitted turn ∷ before) more past is = let h = up-to before more past is in record {
  later = Emitted turn ∷ h.later;
  first = h.first;
  parts = ap (λ (z : List Event). Emitted turn ∷ z) h.parts;
  submissions_are = h.submissions_are;
  at_submission = h.at_submission;
}
up-to (Submitted x fault ∷ before) [] past is = record {
  later = [];
  first = Submitted x fault ∷ before;
  parts = refl;
  submissions_are = is;
  at_submission = tt;
}
up-to (Submitted x fault ∷ before) (y ∷ more) past is =
    let rest : submissions_in before ≡ more ++ past = cc is in
    let h = up-to before more past rest in record {
      later = Submitted x fault ∷ h.later;
      first = h.first;
      parts = ap (λ (z : List Event). Submitted x fault ∷ z) h.parts;
      submissions_are = h.submissions_are;
      at_submission = h.at_submission;
    }

pub events-so-far-are-one : EventsSoFarAreOne
events-so-far-are-one t sender s past ones others lawful a at_ones b at_others =
    stopped-once s (links_from t.links sender) (distinct_links t.links sender lawful.links.identifiers)
    ones others a.follow b.follow (a.submissions_are ∙ sym b.submissions_are) at_ones at_others

pub events-so-far-begin : EventsSoFarBegin
events-so-far-begin t sender s more past first all lawful a at_first b =
    let links = links_from t.links sender in
    let h = up-to all more past b.submissions_are in
    let follow = rest-follows s links (distinct_links t.links sender lawful.links.identifiers) h.later h.first
    (subst (λ (z : List Event). EachFollows s links z) h.parts b.follow) in
    let same : h.first ≡ first = events-so-far-are-one t sender s past h.first first lawful
    (record { submissions_are = h.submissions_are; follow = follow }) h.at_submission a at_first in
    (h.later, h.parts ∙ ap (λ (z : List Event). h.later ++ z) same)

pub stopped-sends-are-one : StoppedSendsAreOne
stopped-sends-are-one t sender s past old one other lawful a b =
    let same : a.events ≡ b.events = events-so-far-are-one t sender s past a.events b.events lawful
    a.are_events a.at_submission b.are_events b.at_submission in
    a.written ∙ ap (λ (z : List Event). old ++ send_text s z) same ∙ sym b.written

pub events-are-one : EventsAreOne
events-are-one t sender s past ones others lawful a done_ones b done_others =
    done-once s (links_from t.links sender) (distinct_links t.links sender lawful.links.identifiers)
    ones others a.follow b.follow (a.submissions_are ∙ sym b.submissions_are) done_ones done_others

pub sends-are-one : SendsAreOne
sends-are-one t sender s list old one other first second lawful a b =
    let same : a.writes.events ≡ b.writes.events =
    events-are-one t sender s _ a.writes.events b.writes.events lawful a.writes.are_events
    a.writes.are_done b.writes.are_events b.writes.are_done in
    let text : one ≡ other = a.writes.written ∙ ap (λ (z : List Event). old ++ send_text s z) same
    ∙ sym b.writes.written in
    let counts : a.counts ≡ b.counts = a.writes.counted ∙ ap send_counts same ∙ sym b.writes.counted in
    (text, a.counted ∙ ap (λ (c : Summary). with_lines c (length list)) counts ∙ sym b.counted)
