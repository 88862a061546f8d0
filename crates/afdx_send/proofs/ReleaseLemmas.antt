-- The queues of a regulator are the submissions without a release, and whose turn it is gives the next release.
use Rattle.std.proofs.Common.{◌≡◌, ◌≢◌, ℕ, ◌+◌, ◌<◌, ◌≤◌, ◌==◌, Bool, true, false, ◌||◌, List, []}
use Rattle.std.proofs.Common.{◌∷◌, ◌++◌, length, Option, Some, None, ◌⊎◌, inl, inr, refl, sym, ap}
use Rattle.std.proofs.Common.{subst, arith, ◌∙◌, suc, zero, slice_set, slice_index_or, sum_by}
use Rattle.std.specs.List.{slice_get, AllByRecursion}
use Rattle.std.proofs.lemmas.List.{length-map}
use Rattle.std.proofs.lemmas.List.Sums.{sum_by-set}
use Rattle.std.proofs.lemmas.Option.{get_or_from_slice_get, slice_get_within, slice_get-get_or}
use Rattle.std.proofs.lemmas.Bool.{cases_eq}
use Rattle.afdx_frame.proofs.ListLemmas.{slice_get-push_before, slice_get-push_last, slice_get-push_cases}
use Rattle.afdx_port.proofs.TurnLemmas.{eqb-same, eqb-other}
use Rattle.afdx_send.specs.declared.regulator.Queued.{Queued}
use Rattle.afdx_send.specs.declared.regulator.Regulator.{Regulator}
use Rattle.afdx_send.specs.Releases.{Submission, Release, has_release, earliest_after, turn}
use Rattle.afdx_send.specs.Releases.{IsUnreleased, IsNext, AreReleases}
use Rattle.afdx_send.specs.Regulator.{submission_of, IsQueue, Regulates, HasQueue, Serves, Releases}
use Rattle.afdx_send.specs.Regulator.{Pushes, Pops, waiting_of, sub_count, next_time_of}
use Rattle.afdx_send.proofs.RegulatorLemmas.{has_same, due, not_none}

or_left : (a b : Bool) → (a || b) ≡ false → a ≡ false
or_left false b h = refl
or_left true b h = h

or_right : (a b : Bool) → (a || b) ≡ false → b ≡ false
or_right false b h = h
or_right true b h = cc

-- an element of a list of which one was replaced
pub get_set_same : {Y : Type 0} (xs : List Y) (i : ℕ) (y z : Y) → slice_get (slice_set xs i y) i ≡ Some z → z ≡ y
get_set_same [] i y z h = absurd (cc h)
get_set_same (x ∷ xs) zero y z h = cc h
get_set_same (x ∷ xs) (suc i) y z h = get_set_same xs i y z h

pub get_set_other : {Y : Type 0} (xs : List Y) (i j : ℕ) (y z : Y) → j ≢ i
    → slice_get (slice_set xs i y) j ≡ Some z → slice_get xs j ≡ Some z
get_set_other [] i j y z ne h = absurd (cc h)
get_set_other (x ∷ xs) zero zero y z ne h = absurd (ne refl)
get_set_other (x ∷ xs) zero (suc j) y z ne h = h
get_set_other (x ∷ xs) (suc i) zero y z ne h = h
get_set_other (x ∷ xs) (suc i) (suc j) y z ne h = get_set_other xs i j y z (λ e. ne (ap (λ n. suc n) e)) h

pub length_set : {Y : Type 0} (xs : List Y) (i : ℕ) (y : Y) → length (slice_set xs i y) ≡ length xs
length_set [] i y = refl
length_set (x ∷ xs) zero y = refl
length_set (x ∷ xs) (suc i) y = ap (λ n. suc n) (length_set xs i y)

-- a submission without a release is one of the earlier ones, or the last
pub without_either : (ss : List Submission) (s : Submission) (rs : List Release) (place : ℕ)
    (d : Submission) → IsUnreleased (ss ++ s ∷ []) rs place d → IsUnreleased ss rs place d
    ⊎ ((place ≡ length ss) × (d ≡ s))
without_either ss s rs place d h =
    elim (slice_get-push_cases ss s place d h.stands)
    [ inl a ↦ inl (record { stands = a; without = h.without }) | inr b ↦ inr b ]

pub without_longer : (ss : List Submission) (s : Submission) (rs : List Release) (place : ℕ)
    (d : Submission) → IsUnreleased ss rs place d → IsUnreleased (ss ++ s ∷ []) rs place d
without_longer ss s rs place d h = record { stands = slice_get-push_before ss s place d h.stands; without = h.without }

-- what has none of more releases has none of fewer
without_fewer : (ss : List Submission) (r : Release) (rs : List Release) (q : ℕ) (d : Submission)
    → IsUnreleased ss (r ∷ rs) q d → IsUnreleased ss rs q d
without_fewer ss r rs q d h =
    record { stands = h.stands; without = or_right (r.place == q) (has_release rs q) h.without }

without_own : (ss : List Submission) (r : Release) (rs : List Release) (q : ℕ) (d : Submission)
    → IsUnreleased ss (r ∷ rs) q d → r.place ≢ q
without_own ss r rs q d h same = let e = or_left (r.place == q) (has_release rs q) h.without in
    let k = eqb-same r.place q same in cc

-- a release that the queue doesn't hold leaves the queue
queue_kept : (ss : List Submission) (r : Release) (rs : List Release) (c from : ℕ) (ms : List Queued) →
    ((q : ℕ) (d : Submission) → from ≤ q → IsUnreleased ss rs q d → d.sub ≡ c → r.place ≢ q)
    → IsQueue ss rs c from ms → IsQueue ss (r ∷ rs) c from ms
queue_kept ss r rs c from [] other h = λ q d le w class. h q d le (without_fewer ss r rs q d w) class
queue_kept ss r rs c from (m ∷ ms) other h =
    let f = h.1 in
    let ne : r.place ≢ h.0 = other h.0 (submission_of c m) f.from_on f.own refl in
    let le : from ≤ h.0 = f.from_on in (
      h.0,
      record {
        from_on = f.from_on;
        own = record { stands = f.own.stands; without = rw (eqb-other r.place h.0 ne) f.own.without };
        first = λ q d up v class. f.first q d up (without_fewer ss r rs q d v) class;
      },
      queue_kept ss r rs c (h.0 + 1) ms (λ q d up v class. other q d (omega arith) v class) h.2,
    )

-- the queue from an earlier place on
queue_lower : (ss : List Submission) (rs : List Release) (c place : ℕ) (ms : List Queued) →
    ((q : ℕ) (d : Submission) → IsUnreleased ss rs q d → d.sub ≡ c → place + 1 ≤ q)
    → IsQueue ss rs c (place + 1) ms → IsQueue ss rs c 0 ms
queue_lower ss rs c place [] above h = λ q d le w class. h q d (above q d w class) w class
queue_lower ss rs c place (m ∷ ms) above h = (
  h.0,
  record { from_on = omega arith; own = h.1.own; first = λ q d up v class. h.1.first q d (above q d v class) v class },
  h.2,
)

-- the front of a queue is released
queue_pop : (ss : List Submission) (r : Release) (rs : List Release) (c : ℕ) (m : Queued) (ms : List Queued) →
    (h : IsQueue ss rs c 0 (m ∷ ms)) → r.place ≡ h.0 → IsQueue ss (r ∷ rs) c 0 ms
queue_pop ss r rs c m ms h at =
    queue_lower ss (r ∷ rs) c h.0 ms
    (λ q d v class. let le : h.0 ≤ q = h.1.first q d (omega arith) (without_fewer ss r rs q d v) class in
    let ne : r.place ≢ q = without_own ss r rs q d v in omega arith)
    (queue_kept ss r rs c (h.0 + 1) ms (λ q d up v class e. omega arith) h.2)

-- a further submission of the sub-VL joins the queue
pub queue_push : (ss : List Submission) (rs : List Release) (c from : ℕ) (m : Queued) (ms : List Queued) →
    has_release rs (length ss) ≡ false → from ≤ length ss → IsQueue ss rs c from ms
    → IsQueue (ss ++ submission_of c m ∷ []) rs c from (ms ++ m ∷ [])
queue_push ss rs c from m [] free le h = (
  length ss,
  record {
    from_on = le;
    own = record { stands = slice_get-push_last ss (submission_of c m); without = free };
    first = λ q d up v class. elim (without_either ss (submission_of c m) rs q d v)
        [ inl old ↦ absurd (h q d up old class) | inr new ↦ omega (arith, new.0) ];
  },
  λ q d up v class. elim (without_either ss (submission_of c m) rs q d v) [
    | inl old ↦ h q d (omega arith) old class
    | inr new ↦ omega (arith, new.0)
  ],
)
queue_push ss rs c from m (n ∷ ns) free le h =
    let within : h.0 < length ss = slice_get_within ss h.0 (submission_of c n) h.1.own.stands in (
      h.0,
      record {
        from_on = h.1.from_on;
        own = without_longer ss (submission_of c m) rs h.0 (submission_of c n) h.1.own;
        first = λ q d up u class. elim (without_either ss (submission_of c m) rs q d u)
            [ inl old ↦ h.1.first q d up old class | inr new ↦ omega (arith, new.0) ];
      },
      queue_push ss rs c (h.0 + 1) m ns free (omega arith) h.2,
    )

-- a further submission of another sub-VL leaves the queue
pub queue_other : (ss : List Submission) (s : Submission) (rs : List Release) (c from : ℕ) (ms : List Queued) →
    s.sub ≢ c → IsQueue ss rs c from ms → IsQueue (ss ++ s ∷ []) rs c from ms
queue_other ss s rs c from [] other h = λ q d up v class. elim (without_either ss s rs q d v) [
  | inl old ↦ h q d up old class
  | inr new ↦ other (ap (λ z. z.sub) (sym new.1) ∙ class)
]
queue_other ss s rs c from (m ∷ ms) other h = (
  h.0,
  record {
    from_on = h.1.from_on;
    own = without_longer ss s rs h.0 (submission_of c m) h.1.own;
    first = λ q d up v class. elim (without_either ss s rs q d v) [
      | inl old ↦ h.1.first q d up old class
      | inr new ↦ absurd (other (ap (λ z. z.sub) (sym new.1) ∙ class))
    ];
  },
  queue_other ss s rs c (h.0 + 1) ms other h.2,
)

-- a submission without a release is in its queue, whose front came no later
front_of : (ss : List Submission) (rs : List Release) (c : ℕ) (ms : List Queued) →
    ((i j : ℕ) (d e : Submission) → i ≤ j → slice_get ss i ≡ Some d → slice_get ss j ≡ Some e → d.time ≤ e.time) →
    IsQueue ss rs c 0 ms → (q : ℕ) (d : Submission) → IsUnreleased ss rs q d → d.sub ≡ c
    → (m : Queued) × (rest : List Queued) × (ms ≡ m ∷ rest) × (m.time ≤ d.time)
front_of ss rs c [] order h q d v class = absurd (h q d (omega arith) v class)
front_of ss rs c (m ∷ ms) order h q d v class =
    let le : h.0 ≤ q = h.1.first q d (omega arith) v class in
    (m, ms, refl, order h.0 q (submission_of c m) d le h.1.own.stands v.stands)

-- the queue of a sub-VL
queue_of_sub : (p : Regulator) (sub : ℕ) → 1 ≤ sub → sub ≤ sub_count p → (index : ℕ)
    × (index + 1 ≡ sub) × (ms : List Queued) × HasQueue (waiting_of p) index ms
queue_of_sub p zero a b = absurd (omega arith)
queue_of_sub p (suc index) a b = (
  index,
  omega arith,
  slice_index_or (waiting_of p) index [],
  slice_get-get_or (waiting_of p) index [] (omega (arith, length-map p.queues.items (λ q. q.items))),
)

-- the front of its queue came no later than a submission without a release
pub waits : (p : Regulator) (ss : List Submission) (rs : List Release) → Regulates p ss rs
    → (q : ℕ) (d : Submission) → IsUnreleased ss rs q d →
    (index : ℕ) × (index + 1 ≡ d.sub) × (m : Queued) × (rest : List Queued)
    × HasQueue (waiting_of p) index (m ∷ rest) × (m.time ≤ d.time)
waits p ss rs g q d v =
    let within = g.subs q d v.stands in
    let k = queue_of_sub p d.sub within.0 within.1 in
    let h = g.queues k.0 k.2 k.3 in
    let f = front_of ss rs (k.0 + 1) k.2 g.in_order h q d v (sym k.1) in
    (k.0, k.1, f.0, f.1, k.3 ∙ ap (λ z. Some z) f.2, f.3)

pub released : (p : Regulator) (ss : List Submission) (rs : List Release) (time sub : ℕ)
    (m : Queued) (new : Regulator) → next_time_of p ≡ Some time → Regulates p ss rs
    → Serves p time sub m new → Releases p ss rs time sub m new
released p ss rs time sub m new next g s =
    let d = due p time next in
    let h : IsQueue ss rs (s.index + 1) 0 (m ∷ s.pops.rest) = g.queues s.index (m ∷ s.pops.rest) s.pops.has in
    let same = has_same (waiting_of p) s.index (s.chosen.ready.0 ∷ s.chosen.ready.1)
    (m ∷ s.pops.rest) s.chosen.ready.2.has s.pops.has in
    let message : s.chosen.ready.0 ≡ m = cc in
    let come : m.time ≤ time =
    (let e : s.chosen.ready.0.time ≡ m.time = ap (λ z. z.time) message in let k =
    s.chosen.ready.2.come in omega arith) in
    let r : Release = record { place = h.0; submission = submission_of (s.index + 1) m; time = time } in
    let n : IsNext p.bag (sub_count p) ss rs r = record {
      own = h.1.own;
      come = come;
      after = (let e = g.earliest in let a = d.after in omega arith);
      least = λ t place e v came over.
          (let w = waits p ss rs g place e v in let l = d.least w.0 w.2 w.3 w.4 in let a =
          g.earliest in omega (arith, l, w.5));
      in_turn = λ place e v came. (let w = waits p ss rs g place e v in
          let t = s.chosen.in_turn w.0 (w.2, w.3, record { has = w.4; come = omega (arith, w.5) }) in
          subst (λ (z : ℕ). turn (sub_count p) z (s.index + 1) ≤ turn (sub_count p) z e.sub)
          g.served (subst (λ (z : ℕ). turn (sub_count p) p.served (s.index + 1)
          ≤ turn (sub_count p) p.served z) w.1 t));
      oldest = λ place e v class. h.1.first place e (omega arith) v class;
    } in
    let count : sub_count new ≡ sub_count p = sym (length-map new.queues.items (λ q. q.items))
    ∙ ap length s.pops.left ∙ length_set (waiting_of p) s.index s.pops.rest
    ∙ length-map p.queues.items (λ q. q.items) in
    record {
      r = r;
      next = n;
      at = refl;
      is = ap (λ z. submission_of z m) (sym s.sub_is);
      bag = s.bag;
      subs = count;
      regulates = record {
        are_releases = subst (λ (b : ℕ). AreReleases b (sub_count new) ss (r ∷ rs)) (sym s.bag)
            (subst (λ (c : ℕ). AreReleases p.bag c ss (r ∷ rs)) (sym count) (n, g.are_releases));
        earliest = s.earliest ∙ ap (λ b. time + b) (sym s.bag);
        served = s.served ∙ s.sub_is;
        queues = λ i ms k. queue_after i ms (subst (λ (z : List (List Queued)). slice_get z i ≡ Some ms) s.pops.left k);
        subs = λ place e k. (let w = g.subs place e k in (w.0, omega (arith, w.1)));
        in_order = g.in_order;
      };
    }
  where
    queue_after : (i : ℕ) (ms : List Queued) → slice_get (slice_set (waiting_of p) s.index s.pops.rest) i ≡ Some ms →
        IsQueue ss (record {
          place = (g.queues s.index (m ∷ s.pops.rest) s.pops.has).0;
          submission =
              submission_of (s.index + 1) m;
          time = time;
        } ∷ rs) (i + 1) 0 ms
    queue_after i ms k =
        let h : IsQueue ss rs (s.index + 1) 0 (m ∷ s.pops.rest) = g.queues s.index (m ∷ s.pops.rest) s.pops.has in
        let r : Release = record { place = h.0; submission = submission_of (s.index + 1) m; time = time } in
        elim (cases_eq i s.index) [
          | inl e ↦ (let k' = subst
              (λ (z : ℕ). slice_get (slice_set (waiting_of p) s.index s.pops.rest) z ≡ Some ms) e k in
              let same = get_set_same (waiting_of p) s.index s.pops.rest ms k' in
              let here : IsQueue ss (r ∷ rs) (s.index + 1) 0 s.pops.rest =
              queue_pop ss r rs (s.index + 1) m s.pops.rest h refl in
              subst (λ (z : ℕ). IsQueue ss (r ∷ rs) (z + 1) 0 ms) (sym e)
              (subst (λ (z : List Queued). IsQueue ss (r ∷ rs) (s.index + 1) 0 z) (sym same) here))
          | inr ne ↦ queue_kept ss r rs (i + 1) 0 ms
              (λ q d up v class at. ne
              (let a : slice_get ss q ≡ Some (submission_of (s.index + 1) m) =
              subst (λ (z : ℕ). slice_get ss z ≡ Some (submission_of (s.index + 1) m)) at
              h.1.own.stands in
              let b = v.stands in
              let f : submission_of (s.index + 1) m ≡ d = cc in
              let e : s.index + 1 ≡ d.sub = ap (λ z. z.sub) f in
              omega arith))
              (g.queues i ms (get_set_other (waiting_of p) s.index i s.pops.rest ms ne k))
        ]

-- a release before a submission came stays the next one
pub next_stays : (bag subs : ℕ) (ss : List Submission) (s : Submission) (earlier : List Release)
    (r : Release) → r.time < s.time → IsNext bag subs ss earlier r
    → IsNext bag subs (ss ++ s ∷ []) earlier r
next_stays bag subs ss s earlier r before n = record {
  own = without_longer ss s earlier r.place r.submission n.own;
  come = n.come;
  after = n.after;
  least = λ t place d w come over. elim (without_either ss s earlier place d w) [
    | inl old ↦ n.least t place d old come over
    | inr new ↦ (let time : d.time ≡ s.time = ap (λ z. z.time) new.1 in omega arith)
  ];
  in_turn = λ place d w come. elim (without_either ss s earlier place d w) [
    | inl old ↦ n.in_turn place d old come
    | inr new ↦ absurd (let time : d.time ≡ s.time = ap (λ z. z.time) new.1 in omega arith)
  ];
  oldest = λ place d w class. elim (without_either ss s earlier place d w) [
    | inl old ↦ n.oldest place d old class
    | inr new ↦ (let own : r.place < length ss =
        slice_get_within ss r.place r.submission n.own.stands in omega (arith, new.0))
  ];
}

pub releases_stay : (bag subs : ℕ) (ss : List Submission) (s : Submission) (rs : List Release)
    → AllByRecursion (λ r. r.time < s.time) rs → AreReleases bag subs ss rs
    → AreReleases bag subs (ss ++ s ∷ []) rs
releases_stay bag subs ss s [] before h = tt
releases_stay bag subs ss s (r ∷ earlier) before h =
    (next_stays bag subs ss s earlier r before.0 h.0, releases_stay bag subs ss s earlier before.1 h.1)

-- what comes next with a later submission, and before it, came next without it
pub next_was : (bag subs : ℕ) (ss : List Submission) (s : Submission) (earlier : List Release)
    (r : Release) → r.time < s.time → IsNext bag subs (ss ++ s ∷ []) earlier r
    → IsNext bag subs ss earlier r
next_was bag subs ss s earlier r before n = record {
  own = elim (without_either ss s earlier r.place r.submission n.own) [
    | inl old ↦ old
    | inr new ↦ absurd
        (let time : r.submission.time ≡ s.time = ap (λ z. z.time) new.1 in let come = n.come in
        omega arith)
  ];
  come = n.come;
  after = n.after;
  least = λ t place d w come over. n.least t place d (without_longer ss s earlier place d w) come over;
  in_turn = λ place d w come. n.in_turn place d (without_longer ss s earlier place d w) come;
  oldest = λ place d w class. n.oldest place d (without_longer ss s earlier place d w) class;
}

-- no release has a place past the last submission
pub no_release_past : (bag subs : ℕ) (ss : List Submission) (rs : List Release)
    → AreReleases bag subs ss rs → has_release rs (length ss) ≡ false
no_release_past bag subs ss [] h = refl
no_release_past bag subs ss (r ∷ earlier) h =
    let rest = no_release_past bag subs ss earlier h.1 in
    let own : r.place < length ss = slice_get_within ss r.place r.submission h.0.own.stands in
    let other : r.place ≢ length ss = λ e. omega arith in
    rw (eqb-other r.place (length ss) other) rest

-- a message joins its queue
pub pushed : (p : Regulator) (ss : List Submission) (rs : List Release) (index : ℕ) (m : Queued)
    (new : Regulator) → Regulates p ss rs → index < sub_count p →
    Pushes (waiting_of p) index m (waiting_of new) → new.bag ≡ p.bag → new.earliest ≡ p.earliest
    → new.served ≡ p.served →
    AllByRecursion (λ r. r.time < m.time) rs → ((i : ℕ) (e : Submission) → slice_get ss i ≡ Some e → e.time ≤ m.time) →
    Regulates new (ss ++ submission_of (index + 1) m ∷ []) rs
pushed p ss rs index m new g below k bag earliest served before come =
    let s : Submission = submission_of (index + 1) m in
    let count : sub_count new ≡ sub_count p = sym (length-map new.queues.items (λ q. q.items))
    ∙ ap length k.after ∙ length_set (waiting_of p) index (k.before ++ m ∷ [])
    ∙ length-map p.queues.items (λ q. q.items) in
    record {
      are_releases = subst (λ (b : ℕ). AreReleases b (sub_count new) (ss ++ s ∷ []) rs) (sym bag)
          (subst (λ (c : ℕ). AreReleases p.bag c (ss ++ s ∷ []) rs) (sym count)
          (releases_stay p.bag (sub_count p) ss s rs before g.are_releases));
      earliest = earliest ∙ g.earliest ∙ ap (λ b. earliest_after b rs) (sym bag);
      served = served ∙ g.served;
      queues = λ i ms h. queue_after i ms (subst (λ (z : List (List Queued)). slice_get z i ≡ Some ms) k.after h);
      subs = λ place e h. elim (slice_get-push_cases ss s place e h) [
        | inl old ↦ (let w = g.subs place e old in (w.0, omega (arith, w.1)))
        | inr late ↦ (let f : e.sub ≡ index + 1 = ap (λ z. z.sub) late.1 in (omega arith, omega arith))
      ];
      in_order = λ i j d e le a b. elim (slice_get-push_cases ss s j e b) [
        | inl old_j ↦ elim (slice_get-push_cases ss s i d a) [
          | inl old_i ↦ g.in_order i j d e le old_i old_j
          | inr new_i ↦ absurd (let within = slice_get_within ss j e old_j in omega (arith, new_i.0))
        ]
        | inr new_j ↦ (let late : e.time ≡ m.time = ap (λ z. z.time) new_j.1 in
            elim (slice_get-push_cases ss s i d a) [
              | inl old_i ↦ (let came = come i d old_i in omega arith)
              | inr new_i ↦ (let same : d.time ≡ m.time = ap (λ z. z.time) new_i.1 in omega arith)
            ])
      ];
    }
  where
    queue_after : (i : ℕ) (ms : List Queued)
        → slice_get (slice_set (waiting_of p) index (k.before ++ m ∷ [])) i ≡ Some ms
        → IsQueue (ss ++ submission_of (index + 1) m ∷ []) rs (i + 1) 0 ms
    queue_after i ms h =
        elim (cases_eq i index) [
          | inl e ↦ (let h' = subst
              (λ (z : ℕ). slice_get (slice_set (waiting_of p) index (k.before ++ m ∷ [])) z
              ≡ Some ms) e h in
              let same = get_set_same (waiting_of p) index (k.before ++ m ∷ []) ms h' in
              let room = no_release_past p.bag (sub_count p) ss rs g.are_releases in
              let here = queue_push ss rs (index + 1) 0 m k.before room (omega arith) (g.queues index k.before k.has) in
              subst (λ (z : ℕ). IsQueue (ss ++ submission_of (index + 1) m ∷ []) rs (z + 1) 0 ms)
              (sym e) (subst (λ (z : List Queued).
              IsQueue (ss ++ submission_of (index + 1) m ∷ []) rs (index + 1) 0 z) (sym same) here))
          | inr ne ↦ queue_other ss (submission_of (index + 1) m) rs (i + 1) 0 ms
              (λ e. ne (omega (arith, e))) (g.queues i ms
              (get_set_other (waiting_of p) index i (k.before ++ m ∷ []) ms ne h))
        ]

-- nothing was submitted to a new regulator
pub fresh : (p : Regulator) → p.earliest ≡ 0 → p.served ≡ 0
    → ((i : ℕ) (ms : List Queued) → HasQueue (waiting_of p) i ms → ms ≡ []) → Regulates p [] []
fresh p earliest served none = record {
  are_releases = tt;
  earliest = earliest;
  served = served;
  queues = λ i ms h. subst (λ (z : List Queued). IsQueue [] [] (i + 1) 0 z) (sym (none i ms h))
      (λ q d up v class. cc (v.stands));
  subs = λ place e h. absurd (cc h);
  in_order = λ i j d e le a b. absurd (cc a);
}

-- when the next release is
pub next_time_is : (p : Regulator) (ss : List Submission) (rs : List Release) (r : Release)
    → Regulates p ss rs → IsNext p.bag (sub_count p) ss rs r → next_time_of p ≡ Some r.time
next_time_is p ss rs r g n =
    let w = waits p ss rs g r.place r.submission n.own in
    some_time (next_time_of p) refl w.0 w.2 w.3 w.4
  where
    some_time : (o : Option ℕ) → next_time_of p ≡ o → (i : ℕ) (m : Queued) (ms : List Queued)
        → HasQueue (waiting_of p) i (m ∷ ms) → o ≡ Some r.time
    some_time None e i m ms h = absurd (not_none p i m ms h e)
    some_time (Some t) e i m ms h =
        let d = due p t e in
        let q : IsQueue ss rs (d.index + 1) 0 (d.ready.0 ∷ d.ready.1) =
        g.queues d.index (d.ready.0 ∷ d.ready.1) d.ready.2.has in
        let upper : r.time ≤ t = n.least t q.0 (submission_of (d.index + 1) d.ready.0) q.1.own
        d.ready.2.come (let a = d.after in let b = g.earliest in omega arith) in
        let w = waits p ss rs g r.place r.submission n.own in
        let lower = d.least w.0 w.2 w.3 w.4 in
        let same : t ≡ r.time = (let a = n.after in let b = g.earliest in let c = n.come in omega (arith, w.5)) in
        ap (λ z. Some z) same

-- a release takes one message
pub popped_sum : (old new : List (List Queued)) (index : ℕ) (m : Queued) → Pops old index m new
    → sum_by length new + 1 ≡ sum_by length old
popped_sum old new index m p =
    let s = sum_by-set length old index p.rest [] (slice_get_within old index (m ∷ p.rest) p.has) in
    let e = get_or_from_slice_get old index (m ∷ p.rest) [] p.has in
    let s' = rw e at s in
    rw p.left (omega (arith, s'))
