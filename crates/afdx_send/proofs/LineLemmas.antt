-- What a link releases, and takes.
use Rattle.std.proofs.Common.{◌≡◌, ℕ, ◌+◌, ◌-◌, ◌*◌, ◌<◌, ◌≤◌, max, List, [], ◌∷◌, ◌++◌, length}
use Rattle.std.proofs.Common.{Some, inl, inr, refl, sym, ap, subst, arith, ◌∙◌, suc, zero}
use Rattle.std.proofs.Common.{slice_set, sum_by}
use Rattle.std.specs.List.{slice_get, AllByRecursion}
use Rattle.std.proofs.lemmas.List.{length-map}
use Rattle.std.proofs.lemmas.List.Sums.{sum_by-cons}
use Rattle.std.proofs.lemmas.Bool.{cases_lt, cases_eq}
use Rattle.afdx_frame.proofs.ListLemmas.{slice_get-push_cases}
use Rattle.afdx_config.specs.Numbers.{after_steps, next_number}
use Rattle.afdx_config.specs.Rows.{LinkRow}
use Rattle.afdx_send.specs.declared.line.SystemLink.{SystemLink}
use Rattle.afdx_send.specs.declared.regulator.Queued.{Queued}
use Rattle.afdx_send.specs.declared.regulator.Regulator.{Regulator}
use Rattle.afdx_send.specs.Frames.{Frame}
use Rattle.afdx_send.specs.Lines.{IsTimely, LineStands, LineReleases, CanTake, held_by}
use Rattle.afdx_send.specs.Regulator.{Regulates, Releases, Serves, Pushes, HasQueue, submission_of}
use Rattle.afdx_send.specs.Regulator.{waiting_of, next_time_of, sub_count}
use Rattle.afdx_send.specs.Releases.{Submission, Release, IsMessage, IsNext, earliest_after}
use Rattle.afdx_send.proofs.RegulatorLemmas.{due}
use Rattle.afdx_send.proofs.ReleaseLemmas.{pushed, get_set_same, get_set_other, length_set, popped_sum}

mul_step : (k b : ℕ) → (k + 1) * b ≡ k * b + b
mul_step k b = omega arith

pub mul_most : (n m b : ℕ) → n ≤ m → n * b ≤ m * b
mul_most n m b le = by_diff (m - n) (omega arith)
  where
    by_diff : (d : ℕ) → m ≡ n + d → n * b ≤ m * b
    by_diff d e = subst (λ (z : ℕ). n * b ≤ z * b) (sym e) (omega arith)

-- so many are held at most
sum_most : (queues : List (List Queued)) (n : ℕ)
    → ((i : ℕ) (ms : List Queued) → HasQueue queues i ms → length ms ≤ n)
    → sum_by length queues ≤ length queues * n
sum_most [] n full = omega arith
sum_most (q ∷ qs) n full =
    let rest = sum_most qs n (λ i ms h. full (suc i) ms h) in
    let one : length q ≤ n = full 0 q refl in
    let step : (length qs + 1) * n ≡ length qs * n + n = mul_step (length qs) n in
    let count : length (q ∷ qs) * n ≡ (length qs + 1) * n = ap (λ z. z * n) (omega arith) in
    let e = sum_by-cons length q qs in omega arith

pub held_most : (p : Regulator) (n : ℕ) → length (waiting_of p) ≤ 4
    → ((i : ℕ) (ms : List Queued) → HasQueue (waiting_of p) i ms → length ms ≤ 64) → held_by p ≤ 256
held_most p n few full = let s = sum_most (waiting_of p) 64 full in let m =
    mul_most (length (waiting_of p)) 4 64 few in omega arith

held_some : (queues : List (List Queued)) (i : ℕ) (m : Queued) (ms : List Queued)
    → HasQueue queues i (m ∷ ms) → 1 ≤ sum_by length queues
held_some [] i m ms h = absurd (cc h)
held_some (q ∷ qs) zero m ms h = let e : q ≡ m ∷ ms = cc h in let l : length q ≡ length (m ∷ ms) =
    ap length e in let s = sum_by-cons length q qs in omega arith
held_some (q ∷ qs) (suc i) m ms h = let r = held_some qs i m ms h in let s = sum_by-cons length q qs in omega arith

-- when the next message is released, and how many are held then
pub record IsLimited (p : Regulator) (t : ℕ) : Type 0 where
  pub some : 1 ≤ held_by p
  pub limit : t + held_by p * p.bag ≤ 1000000000000000 + 257 * p.bag

pub limited : (p : Regulator) (ss : List Submission) (rs : List Release) (t : ℕ) → Regulates p ss rs
    → IsTimely p ss → next_time_of p ≡ Some t → IsLimited p t
limited p ss rs t g timely next =
    let d = due p t next in
    let m = d.ready.0 in
    let ms = d.ready.1 in
    let h = d.ready.2.has in
    let q = g.queues d.index (m ∷ ms) h in
    let early : m.time ≤ 1000000000000000 = timely.limit q.0 (submission_of (d.index + 1) m) q.1.own.stands in
    let le : t ≤ max m.time p.earliest = d.least d.index m ms h in
    let most = mul_most (held_by p) 256 p.bag (held_most p 0 timely.few timely.full) in
    let balance = timely.balance in
    record {
      some = held_some (waiting_of p) d.index m ms h;
      limit = elim (cases_lt p.earliest m.time) [ inl lt ↦ omega arith | inr ge ↦ omega arith ];
    }

-- so its time and its gap are small
pub time_limit : (p : Regulator) (t : ℕ) → p.bag ≤ 128000000 → IsLimited p t → t ≤ 1000032768000000
time_limit p t small l = let m = mul_most 1 (held_by p) p.bag l.some in let k = l.limit in omega arith

-- after a release it stays so
timely_release : (p new : Regulator) (ss : List Submission) (rs : List Release) (time sub : ℕ)
    (m : Queued) → Regulates p ss rs → IsTimely p ss → next_time_of p ≡ Some time
    → Serves p time sub m new → IsTimely new ss
timely_release p new ss rs time sub m g timely next s =
    let l = limited p ss rs time g timely next in
    let sum : held_by new + 1 ≡ held_by p = popped_sum (waiting_of p) (waiting_of new) s.index m s.pops in
    let same : held_by p * p.bag ≡ (held_by new + 1) * p.bag = ap (λ z. z * p.bag) (sym sum) in
    let step = mul_step (held_by new) p.bag in
    let k = l.limit in
    let early : new.earliest ≡ time + p.bag = s.earliest in
    let all : new.earliest + held_by new * p.bag ≤ 1000000000000000 + 257 * p.bag = omega arith in
    record {
      limit = timely.limit;
      few = (let n : length (waiting_of new) ≡ length (waiting_of p) = ap length s.pops.left
          ∙ length_set (waiting_of p) s.index s.pops.rest in let f = timely.few in omega arith);
      full = λ i ms h. full_after i ms (subst (λ (z : List (List Queued)). slice_get z i ≡ Some ms) s.pops.left h);
      balance = subst (λ (b : ℕ). new.earliest + held_by new * b ≤ 1000000000000000 + 257 * b) (sym s.bag) all;
    }
  where
    full_after : (i : ℕ) (ms : List Queued)
        → slice_get (slice_set (waiting_of p) s.index s.pops.rest) i ≡ Some ms → length ms ≤ 64
    full_after i ms h = elim (cases_eq i s.index) [
      | inl e ↦ (let same = get_set_same (waiting_of p) s.index s.pops.rest ms
          (subst (λ (z : ℕ). slice_get (slice_set (waiting_of p) s.index s.pops.rest) z ≡ Some ms) e h) in
          let n : length ms ≡ length s.pops.rest = ap length same in
          let f : length (m ∷ s.pops.rest) ≤ 64 = timely.full s.index (m ∷ s.pops.rest) s.pops.has in
          omega arith)
      | inr ne ↦ timely.full i ms (get_set_other (waiting_of p) s.index i s.pops.rest ms ne h)
    ]

-- what a line releases is what its regulator does
pub line_releases : (old new : SystemLink) (f : Frame) (time sub : ℕ) (m : Queued)
    → next_time_of old.regulator ≡ Some time → Serves old.regulator time sub m new.regulator →
    ((ss : List Submission) (rs : List Release) → Regulates old.regulator ss rs
    → Releases old.regulator ss rs time sub m new.regulator) →
    new.vl ≡ old.vl → new.least ≡ old.least → new.longest ≡ old.longest
    → new.number ≡ next_number old.number
    → f.message ≡ record { udp = m.udp; payload = m.payload.items } →
    (l : LinkRow) (ss : List Submission) (rs : List Release) → LineStands old l ss rs
    → LineReleases old l ss rs time f new
unfolding after_steps
line_releases old new f time sub m next serves rel vl least longest number message l ss rs st =
    let k = rel ss rs st.regulates in
    let is = st.is_line in
    record {
      r = k.r;
      next = subst (λ (b : ℕ). IsNext b l.subs ss rs k.r) is.bag
          (subst (λ (n : ℕ). IsNext old.regulator.bag n ss rs k.r) is.subs k.next);
      at = k.at;
      message = message ∙ sym (ap (λ z. z.message) k.is);
      stands = record {
        is_line = record {
          vl = ap (λ z. z.0) vl ∙ is.vl;
          least = least ∙ is.least;
          longest = longest ∙ is.longest;
          bag = k.bag ∙ is.bag;
          subs = k.subs ∙ is.subs;
        };
        regulates = k.regulates;
        timely = timely_release old.regulator new.regulator ss rs time sub m st.regulates st.timely next serves;
        fits = st.fits;
        messages = st.messages;
        number = number ∙ ap next_number st.number;
      };
    }

-- no release comes later than a gap after the last one
recent : (b t : ℕ) (rs : List Release) → AllByRecursion (λ r. r.time < t) rs → earliest_after b rs ≤ t + b
recent b t [] all = omega arith
recent b t (r ∷ rs) all = let lt : r.time < t = all.0 in omega arith

-- a link takes a submission
pub record Takes (line line' : SystemLink) (index : ℕ) (m : Queued) : Type 0 where
  pub can : CanTake line index m
  pub pushes : Pushes (waiting_of line.regulator) index m (waiting_of line'.regulator)
  pub bag : line'.regulator.bag ≡ line.regulator.bag
  pub earliest : line'.regulator.earliest ≡ line.regulator.earliest
  pub served : line'.regulator.served ≡ line.regulator.served
  pub vl : line'.vl ≡ line.vl
  pub least : line'.least ≡ line.least
  pub longest : line'.longest ≡ line.longest
  pub number : line'.number ≡ line.number

pub line_takes : (line line' : SystemLink) (index : ℕ) (m : Queued) (l : LinkRow) (ss : List Submission)
    (rs : List Release) → Takes line line' index m → LineStands line l ss rs → m.time ≤ 1000000000000000 →
    AllByRecursion (λ r. r.time < m.time) rs
    → ((i : ℕ) (e : Submission) → slice_get ss i ≡ Some e → e.time ≤ m.time)
    → LineStands line' l (ss ++ submission_of (index + 1) m ∷ []) rs
line_takes line line' index m l ss rs k st early before come =
    let is = st.is_line in
    let count : length (waiting_of line'.regulator) ≡ length (waiting_of line.regulator) =
    ap length k.pushes.after ∙ length_set (waiting_of line.regulator) index
    (k.pushes.before ++ m ∷ []) in
    let subs : sub_count line'.regulator ≡ sub_count line.regulator =
    sym (length-map line'.regulator.queues.items (λ q. q.items)) ∙ count
    ∙ length-map line.regulator.queues.items (λ q. q.items) in
    let few : length (waiting_of line'.regulator) ≤ 4 = (let f = st.timely.few in omega arith) in
    let full = λ (i : ℕ) (ms : List Queued) (h : HasQueue (waiting_of line'.regulator) i ms).
    full_after i ms (subst (λ (z : List (List Queued)). slice_get z i ≡ Some ms) k.pushes.after h) in
    let most = mul_most (held_by line'.regulator) 256 line'.regulator.bag (held_most line'.regulator 0 few full) in
    let late : earliest_after line.regulator.bag rs ≤ m.time + line.regulator.bag =
    recent line.regulator.bag m.time rs before in
    let at = st.regulates.earliest in
    let e = k.earliest in
    let b = k.bag in
    record {
      is_line = record {
        vl = ap (λ z. z.0) k.vl ∙ is.vl;
        least = k.least ∙ is.least;
        longest = k.longest ∙ is.longest;
        bag = k.bag ∙ is.bag;
        subs = subs ∙ is.subs;
      };
      regulates = pushed line.regulator ss rs index m line'.regulator st.regulates k.can.within
          k.pushes k.bag k.earliest k.served before come;
      timely = record {
        limit = λ i s h. elim (slice_get-push_cases ss (submission_of (index + 1) m) i s h) [
          | inl old ↦ st.timely.limit i s old
          | inr new ↦ (let t : s.time ≡ m.time = ap (λ z. z.time) new.1 in omega arith)
        ];
        few = few;
        full = full;
        balance = omega arith;
      };
      fits = λ i s h. elim (slice_get-push_cases ss (submission_of (index + 1) m) i s h) [
        | inl old ↦ st.fits i s old
        | inr new ↦ (let t : length s.message.payload ≡ length m.payload.items =
            ap (λ z. length z.message.payload) new.1 in let f = k.can.fits in let g = is.longest in
            omega arith)
      ];
      messages = λ i s h. elim (slice_get-push_cases ss (submission_of (index + 1) m) i s h) [
        | inl old ↦ st.messages i s old
        | inr new ↦ subst (λ (z : Submission). IsMessage z.message) (sym new.1) k.can.message
      ];
      number = k.number ∙ st.number;
    }
  where
    length_push : (ms : List Queued) (x : Queued) → length (ms ++ x ∷ []) ≡ length ms + 1
    length_push [] x = refl
    length_push (y ∷ ys) x = (let r = length_push ys x in omega arith)

    full_after : (i : ℕ) (ms : List Queued)
        → slice_get (slice_set (waiting_of line.regulator) index (k.pushes.before ++ m ∷ [])) i
        ≡ Some ms → length ms ≤ 64
    full_after i ms h = elim (cases_eq i index) [
      | inl e ↦ (let same = get_set_same (waiting_of line.regulator) index
          (k.pushes.before ++ m ∷ []) ms
          (subst (λ (z : ℕ). slice_get (slice_set (waiting_of line.regulator) index
          (k.pushes.before ++ m ∷ [])) z ≡ Some ms) e h) in
          let n : length ms ≡ length (k.pushes.before ++ m ∷ []) = ap length same in
          let o = length_push k.pushes.before m in
          let f : length k.pushes.before < 64 = k.can.room k.pushes.before k.pushes.has in
          omega arith)
      | inr ne ↦ st.timely.full i ms
          (get_set_other (waiting_of line.regulator) index i (k.pushes.before ++ m ∷ []) ms ne h)
    ]
