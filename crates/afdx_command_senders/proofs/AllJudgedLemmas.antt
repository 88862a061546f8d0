-- Where no link is alone, all systems of the one switch on a side are judged.
use Rattle.std.proofs.Common.{◌≡◌, ℕ, suc, ◌+◌, ◌*◌, ◌<◌, ◌≤◌, Bool, true, false, List, [], ◌∷◌, refl, sym, ap, ◌∙◌, subst, arith}
use Rattle.std.proofs.lemmas.Bool.{and_parts, eqb-true, lt-ltb}
use Rattle.std.proofs.lemmas.Option.{slice_get_within}
use Rattle.std.specs.List.{list_any}
use Rattle.std.specs.Option.{option_map_or}
use Rattle.std.specs.Prelude.{filter, if◌then◌else◌, map, nat_eq, nat_lt, slice_get, ◌||◌, Option, Some, None}
use Rattle.afdx_admit.specs.Apart.{byte_to, way_of}
use Rattle.afdx_config.proofs.AmongOthersLemmas.{among_others}
use Rattle.afdx_config.specs.Admission.{byte_ns, IsServing}
use Rattle.afdx_config.specs.Lawful.{IsLawfulSwitch}
use Rattle.afdx_config.specs.Rows.{LinkRow, Rows, SystemRow, is_to}
use Rattle.afdx_conform.specs.Leeway.{Leeway}
use Rattle.afdx_frame.specs.declared.link.Side.{Side}
use Rattle.afdx_frame.specs.declared.link.Side.TheVariants.{A, B}
use Rattle.afdx_law_bounds.proofs.TableLemmas.{port-of-system}
use Rattle.afdx_law_bounds.specs.Tables.{byte_ns_at, port_of}
use Rattle.afdx_law_recorded.proofs.LeastLemmas.{least_left_least}
use Rattle.afdx_law_recorded.specs.Switches.{AllAreJudged, IsExactFromReset, way_at}
use Rattle.afdx_lawful.specs.Sources.{Source, Way, apart_by, least_left, left_by}
use Rattle.afdx_lawful.specs.Ways.{is_way}
use Rattle.afdx_senders.proofs.OwnLemmas.{judged_terms}
use Rattle.afdx_senders.proofs.ShortLemmas.{none_alone}
use Rattle.afdx_senders.specs.SenderCounts.{alone_in}
use Rattle.afdx_senders.specs.Setups.{Setup, ending}
use Rattle.afdx_senders.specs.Sites.{Among}
use Rattle.afdx_senders.specs.Terms.{terms_at}
use Rattle.afdx_command_senders.specs.Asked.{Asked}
use Rattle.afdx_command_senders.specs.LinkWays.{way_on, ways_among, ways_by, ways_of}
use Rattle.afdx_command_senders.specs.Outlook.{Outlook}
use Rattle.afdx_command_senders.specs.Setting.{IsSetting}
use Rattle.afdx_command_senders.specs.Together.{IsExactTest, NoneAloneIsJudged}

-- ---- the way to a system is one of the link's

module _ (t : Rows) (l : LinkRow) where
  is-among : (system : ℕ) (places : List ℕ) → system < t.own → list_any (λ place. nat_eq place system) places ≡ true
      → (k : ℕ) × (slice_get (ways_among t l (way_of l.latency_us 0) places) k
      ≡ Some (way_on t l (way_of l.latency_us 0) system))
  unfolding ways_among
  is-among system [] within goes = absurd (cc goes)
  is-among system (place ∷ places) within goes =
      by (nat_eq place system) (nat_lt place t.own) refl refl goes (is-among system places within)
    where
      by : (e b : Bool) → nat_eq place system ≡ e → nat_lt place t.own ≡ b
          → (e || list_any (λ x. nat_eq x system) places) ≡ true
          → (list_any (λ x. nat_eq x system) places ≡ true
          → (k : ℕ) × (slice_get (map (way_on t l (way_of l.latency_us 0)) (filter (λ x. nat_lt x t.own) places)) k
          ≡ Some (way_on t l (way_of l.latency_us 0) system)))
          → (k : ℕ) × (slice_get (map (way_on t l (way_of l.latency_us 0))
          (if b then place ∷ filter (λ x. nat_lt x t.own) places else filter (λ x. nat_lt x t.own) places)) k
          ≡ Some (way_on t l (way_of l.latency_us 0) system))
      by true true same own goes more = (
        0,
        ap (λ (x : ℕ). Some (way_on t l (way_of l.latency_us 0) x)) (eqb-true place system same),
      )
      by true false same own goes more =
          let is : place ≡ system = eqb-true place system same in
          let here : nat_lt place t.own ≡ true = lt-ltb place t.own (omega (arith, is, within)) in
          absurd (cc (own, here))
      by false true same own goes more = let found = more goes in (suc found.0, found.1)
      by false false same own goes more = more goes

way-same : (t : Rows) (l : LinkRow) (system : ℕ) (s : SystemRow) → IsLawfulSwitch t
    → slice_get t.systems system ≡ Some s → way_on t l (way_of l.latency_us 0) system ≡ way_at t l s.port
way-same t l system s lawful there =
    let line = (port-of-system t system s lawful there).line in
    let here : byte_to t system ≡ byte_ns s = ap (λ (o : Option SystemRow). option_map_or byte_ns o 0) there in
    let same : 0 + byte_to t system ≡ byte_ns_at t s.port = omega (arith, line, here) in
    ap (λ (n : ℕ). is_way (1000 * l.skew_us) (1000 * l.latency_us) n) same

-- ---- what is asked of copies is what it leaves, or less

module _ (o : Outlook) (a : Asked) (z : Setup) (until : ℕ) (test : IsExactTest o a) (is : IsSetting o a z)
    (none : alone_in (ending until z) ≡ 0) where
  abbrev whole : Setup
  whole = ending until z

  lawful : IsLawfulSwitch z.tables
  lawful = subst (λ (r : Rows). IsLawfulSwitch r) (sym is.tables) (among_others o.tables test.lawful)

  row-there : (place : ℕ) (l : LinkRow) → slice_get z.tables.links place ≡ Some l
      → slice_get o.tables.links place ≡ Some l
  row-there place l at = ap (λ (r : Rows). slice_get r.links place) (sym is.tables) ∙ at

  ways-same : (place : ℕ) (l : LinkRow) → slice_get z.tables.links place ≡ Some l
      → z.asked.ways place ≡ ways_of z.tables l
  ways-same place l at =
      is.ways place l (row-there place l at)
      ∙ ap (λ (among : Among). ways_by among o.tables l) test.one_switch
      ∙ ap (λ (r : Rows). ways_of r l) (sym is.tables)

  module _ (place bytes : ℕ) (l : LinkRow) (at : slice_get z.tables.links place ≡ Some l) (long : l.lmin ≤ bytes) where
    abbrev source : Source
    source = terms_at z.tables z.recorded whole.asked place l

    asked-least : (given : Option ℕ) → a.apart ≡ given
        → apart_by source given bytes ≤ least_left (ways_of z.tables l) bytes
    asked-least None e = subst (λ (w : List Way). least_left w bytes ≤ least_left (ways_of z.tables l) bytes)
        (sym (ways-same place l at)) (omega arith)
    asked-least (Some ns) e =
        subst (λ (r : Rows). ns ≤ least_left (ways_of r l) bytes) (sym is.tables)
        (test.apart ns e place bytes l (row-there place l at) long)

    way-near : (system : ℕ) (s : SystemRow) → slice_get z.tables.systems system ≡ Some s → is_to system l ≡ true
        → apart_by source z.asked.given bytes ≤ left_by (way_at z.tables l s.port) bytes
    way-near system s there goes =
        let within : system < o.tables.own = subst (λ (n : ℕ). system < n) (sym test.lawful.own)
        (slice_get_within o.tables.systems system s (ap (λ (r : Rows). slice_get r.systems system) (sym is.tables)
        ∙ there)) in
        let one = is-among z.tables l system l.to (subst (λ (r : Rows). system < r.own) (sym is.tables) within) goes in
        let way = way-same z.tables l system s lawful there in
        let most : least_left (ways_of z.tables l) bytes ≤ left_by (way_at z.tables l s.port) bytes =
        least_left_least (ways_of z.tables l) one.0 (way_at z.tables l s.port)
        (one.1 ∙ ap (λ (w : Way). Some w) way) bytes in
        let asked : apart_by source z.asked.given bytes ≤ least_left (ways_of z.tables l) bytes =
        subst (λ (given : Option ℕ). apart_by source given bytes ≤ least_left (ways_of z.tables l) bytes)
        (sym is.given) (asked-least a.apart refl) in
        omega (arith, most, asked)

  -- ---- who is judged

  judged : (place : ℕ) (l : LinkRow) → slice_get z.tables.links place ≡ Some l → l.from < z.tables.own
      → z.is_judged place ≡ true
  judged place l at sends =
      is.judged place l (row-there place l at)
      ∙ lt-ltb l.from o.tables.own (subst (λ (r : Rows). l.from < r.own) is.tables sends)

  paired : (place : ℕ) (l : LinkRow) → slice_get z.tables.links place ≡ Some l → l.from < z.tables.own
      → (terms_at z.tables z.recorded whole.asked place l).is_paired ≡ true
  paired place l at sends =
      none_alone whole place (terms_at z.tables z.recorded whole.asked place l) none
      (judged_terms whole place l (judged place l at sends) at)

  recorded : (side : Side) (place : ℕ) (l : LinkRow) → slice_get z.tables.links place ≡ Some l
      → l.from < z.tables.own → z.recorded side (port_of z.tables l.from) ≡ true
  recorded side place l at sends =
      let both = and_parts (z.recorded A (port_of z.tables l.from)) (z.recorded B (port_of z.tables l.from))
      (paired place l at sends) in
      by both.0 both.1 side
    where
      by : z.recorded A (port_of z.tables l.from) ≡ true → z.recorded B (port_of z.tables l.from) ≡ true
          → (x : Side) → z.recorded x (port_of z.tables l.from) ≡ true
      by on-a on-b A = on-a
      by on-a on-b B = on-b

  pub all-judged : AllAreJudged whole
  all-judged = record {
    lawful = lawful;
    serving = subst (λ (r : Rows). IsServing r) (sym is.tables) test.serving;
    exact = subst (λ (by : Leeway). IsExactFromReset by) (sym is.leeway) test.exact;
    judged = judged;
    recorded = recorded;
    near = λ place system bytes l s at there goes sends long. way-near place bytes l at long system s there goes;
  }

pub none_alone_judged : NoneAloneIsJudged
none_alone_judged o a z until test is none = all-judged o a z until test is none
