-- Of all links of a switch each receiver is told each message once.
use Rattle.std.proofs.Common.{◌≡◌, ℕ, ◌<◌, ◌≤◌, true, List, [], map, inl, inr, refl, sym, ap, ◌∙◌, subst}
use Rattle.std.proofs.Common.{arith}
use Rattle.std.specs.Prelude.{◌&&◌, ◌==◌, Some, filter, slice_get}
use Rattle.std.proofs.lemmas.Bool.{and_from}
use Rattle.afdx_frame.proofs.ListLemmas.{AllByRecursion-slice_get}
use Rattle.afdx_frame.specs.Sides.{is_side}
use Rattle.afdx_frame.specs.declared.link.Side.{Side}
use Rattle.afdx_frame.specs.declared.link.Side.TheVariants.{A, B}
use Rattle.afdx_config.specs.Admission.{byte_ns}
use Rattle.afdx_config.specs.Lawful.{IsSystem}
use Rattle.afdx_config.specs.Reading.{has_port}
use Rattle.afdx_config.specs.Rows.{LinkRow, Rows, SystemRow, is_to}
use Rattle.afdx_police.specs.Arrival.{Arrival, names, own}
use Rattle.afdx_police.specs.Rule.{IsRule}
use Rattle.afdx_port.specs.Held.{IsByteTime}
use Rattle.afdx_law_bounds.specs.Tables.{port_of, rule_of}
use Rattle.afdx_law_bounds.proofs.TableLemmas.{port-of-system, system-time}
use Rattle.afdx_conform.specs.Streams.{Terms}
use Rattle.afdx_lawful.specs.Accepted.{AreNamed, ComeUpTo, arrivals_of}
use Rattle.afdx_lawful.specs.Judged.{found_single, judged_source}
use Rattle.afdx_lawful.specs.Sources.{Came, Source}
use Rattle.afdx_lawful.proofs.AcceptedLemmas.{lawful_accepted}
use Rattle.afdx_receive.specs.Integrity.{Incoming}
use Rattle.afdx_senders.specs.SenderLaws.{IsQuiet}
use Rattle.afdx_senders.specs.Setups.{Setup, came_from, is_of, own_frames, whose}
use Rattle.afdx_senders.specs.Terms.{terms_at}
use Rattle.afdx_senders.proofs.OwnLemmas.{judged_terms}
use Rattle.afdx_senders.proofs.QuietLemmas.{no_line_is_quiet}
use Rattle.afdx_senders.proofs.TermLemmas.{port_is}
use Rattle.afdx_law_recorded.specs.OneSide.{AreItsArrivals, AreOfOneLink, IsShown}
use Rattle.afdx_law_recorded.specs.Pairs.{IsQuietSource}
use Rattle.afdx_law_recorded.specs.Receivers.{AreHeard, IsWayTo}
use Rattle.afdx_law_recorded.specs.Switches.{AllAreJudged, AllComeOnce, EachCameOnce, NothingIsTold, left_of, stream_at}
use Rattle.afdx_law_recorded.specs.Switches.{way_at}
use Rattle.afdx_law_recorded.proofs.OneSideLemmas.{accepted_left}
use Rattle.afdx_law_recorded.proofs.SwitchLemmas.{all-named, at-port, filter-same, goes-by-time, is_own}
use Rattle.afdx_law_recorded.proofs.SwitchLemmas.{link-row, sender, sent-up, sent_among, whose-same}
use Rattle.afdx_law_recorded.proofs.ToldLemmas.{recorded_told_once}

no-more-than : (n : ℕ) → IsByteTime n → n ≤ 800
no-more-than n (inl is) = omega (arith, is)
no-more-than n (inr (inl is)) = omega (arith, is)
no-more-than n (inr (inr is)) = omega (arith, is)

module _ (z : Setup) (until : ℕ) (came left : List Arrival) (place system : ℕ) (l : LinkRow) (s : SystemRow)
    (all : AllAreJudged z) (told : NothingIsTold z until came left) (at : slice_get z.tables.links place ≡ Some l)
    (there : slice_get z.tables.systems system ≡ Some s) (goes : is_to system l ≡ true) (sends : l.from < z.tables.own)
  where
    abbrev t : Rows
    t = z.tables

    abbrev source : Source
    source = terms_at z.tables z.recorded z.asked place l

    abbrev stream : Terms
    stream = stream_at z.tables z.asked.by until l s.port

    abbrev frames : List Came
    frames = own_frames z place came

    abbrev port : ℕ
    port = port_of z.tables l.from

    seen : (side : Side) → z.recorded side (port_of z.tables l.from) ≡ true
    seen side = all.recorded side place l at sends

    same-frames : own_frames z place came ≡ sent_among l.vl (port_of z.tables l.from) came
    unfolding own_frames
    same-frames = ap (map came_from)
        (filter-same (λ (x : Arrival). is_of place (whose z x)) (is_own l.vl (port_of z.tables l.from)) came
        (λ x. whose-same z.tables all.lawful place l at sends z.among z.recorded seen x))

    port-same : (rule_of z.tables l).port ≡ port_of z.tables l.from
    unfolding rule_of
    port-same = refl

    vl-same : (rule_of z.tables l).vl ≡ l.vl
    unfolding rule_of
    vl-same = refl

    lmin-same : (rule_of z.tables l).lmin ≡ l.lmin
    unfolding rule_of
    lmin-same = refl

    quiet-parts : IsQuiet source frames
    quiet-parts = ((no_line_is_quiet z came).0 told.no_line).sources place source
        (judged_terms z place l (all.judged place l at sends) at)

    quiet : IsQuietSource source frames
    unfolding judged_source
    quiet = record {
      paired = and_from (z.recorded A port) (z.recorded B port) (seen A) (seen B);
      start = all.exact.start;
      named = subst (λ (xs : List Came). AreNamed source xs) (sym same-frames)
          (all-named l.vl port source vl-same came);
      by_time = subst (λ (xs : List Came). ComeUpTo z.asked.until xs) (sym same-frames)
          (sent-up l.vl port z.asked.until came told.by_time);
      coming = quiet-parts.coming;
      single = by;
    }
      where
        by : (side : Side) → found_single source side frames ≡ []
        by A = quiet-parts.on_a
        by B = quiet-parts.on_b

    arrivals : (side : Side) → AreItsArrivals source side frames (own l.vl side came)
    arrivals side = record {
      at_port = ap (λ (p : ℕ). filter (λ (x : Arrival). p == x.port) (own l.vl side came)) port-same
          ∙ at-port l.vl port source port-same side came
          ∙ ap (arrivals_of source side) (sym same-frames);
      by_time = goes-by-time l.vl port z.asked.until (λ x. is_side side x.side && names l.vl x.bytes) came told.by_time;
    }

    one-link : AreOfOneLink source stream
    unfolding rule_of
    one-link = record {
      rule = refl;
      options = refl;
      exact = record {
        account = record {
          slack = all.exact.slack;
          drift = all.exact.drift;
          asked = all.exact.asked;
          start = all.exact.start;
        };
        between = all.exact.between;
      };
      bag = (link-row z.tables all.lawful place l at sends z.among z.recorded seen).bag_ms;
    }

    is-rule : IsRule (rule_of z.tables l)
    unfolding rule_of
    is-rule =
        let row = link-row z.tables all.lawful place l at sends z.among z.recorded seen in
        let from = sender z.tables all.lawful place l at sends z.among z.recorded seen in
        let is = AllByRecursion-slice_get (IsSystem z.tables.profile) z.tables.systems l.from from.row
        all.lawful.systems.each from.there in
        let same = port_is z.tables l.from from.row from.there in
        record {
          port_first = let first = is.port.0 in omega (arith, same, first);
          port_last = let last = is.port.1 in omega (arith, same, last);
          bag = row.bag_ms;
          shortest = row.lmin.0;
          ordered = row.lmax.0;
          longest = row.lmax.1;
          jitter = all.lawful.sent place l at sends;
        }

    way-to : IsWayTo source stream (way_at z.tables l s.port)
    way-to =
        let row = link-row z.tables all.lawful place l at sends z.among z.recorded seen in
        record {
          link = one-link;
          rule = is-rule;
          latency = refl;
          line = refl;
          skew = let less = all.serving.skews place l at in omega (arith, less);
          longest = let most = row.skew_us.1 in omega (arith, most);
          slowest = let line = (port-of-system z.tables system s all.lawful there).line in
              let time = no-more-than (byte_ns s) (system-time z.tables system s all.lawful there) in
              omega (arith, line, time);
          inner = all.exact.inner;
          near = λ bytes long. all.near place system bytes l s at there goes sends
              (subst (λ (n : ℕ). n ≤ bytes) lmin-same long);
        }

    shown : (side : Side) → IsShown stream (own l.vl side came) (left_of l.vl side s.port left)
    shown side = told.streams side place system l s at there goes sends

    came-once : (heard : List Incoming) → AreHeard l.vl (λ side. left_of l.vl side s.port left) heard →
        EachCameOnce z until came left place system l s heard
    came-once heard are = record {
      frames = λ side. accepted_left source stream side frames (own l.vl side came) (left_of l.vl side s.port left)
          one-link
          (lawful_accepted source frames side all.exact.slack all.exact.drift quiet.by_time quiet.named quiet.coming)
          (arrivals side) (shown side);
      messages = recorded_told_once source stream (way_at z.tables l s.port) frames (λ side. own l.vl side came)
          (λ side. left_of l.vl side s.port left) heard (has_port z.tables.ports system l.vl) way-to quiet arrivals
          shown
          (subst (λ (vl : ℕ). AreHeard vl (λ side. left_of l.vl side s.port left) heard) (sym vl-same) are);
    }

pub all_come_once : AllComeOnce
all_come_once z until came left place system l s heard all told at there goes sends are =
    came-once z until came left place system l s all told at there goes sends heard are
