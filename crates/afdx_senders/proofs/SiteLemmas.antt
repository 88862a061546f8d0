-- Whose a frame is, from what the tables answer.
use Rattle.std.proofs.Common.{◌≡◌, ℕ, Bool, true, false, ◌&&◌, sym, ap, subst, ◌∙◌}
use Rattle.std.specs.Prelude.{nat_eq, nat_lt, is_some, slice_get, Some, None}
use Rattle.std.specs.Prelude.{if◌then◌else◌}
use Rattle.std.specs.Option.{option_map_or}
use Rattle.std.proofs.lemmas.Bool.{eqb-true, ltb-true}
use Rattle.afdx_config.specs.Laws.{SystemsListen}
use Rattle.afdx_config.specs.Reading.{link_of, listener_at}
use Rattle.afdx_config.specs.Rows.{LinkRow, Rows, SystemRow}
use Rattle.afdx_frame.specs.declared.link.Side.{Side}
use Rattle.afdx_frame.specs.declared.link.VlId.{VlId}
use Rattle.afdx_law_bounds.specs.Tables.{port_of}
use Rattle.afdx_senders.specs.Sites.{Among, Recorded, came_at, has_link, is_sent_at, is_site, named_as, sent_as, sent_by, sent_in}
use Rattle.afdx_senders.specs.Sites.{sent_beyond, source_of}
use Rattle.afdx_senders.specs.declared.site_frame.SiteFrame.{SiteFrame}
use Rattle.afdx_senders.specs.declared.sites.SourceOf.TheVariants.{Source, Elsewhere, Nobody, Unknown}

-- ---- where a link is sent

pub sent_own : (t : Rows) (l : LinkRow) (s : SystemRow) (port : ℕ) → nat_lt l.from t.own ≡ true →
    slice_get t.systems l.from ≡ Some s → nat_eq s.port port ≡ is_sent_at t l port
unfolding is_sent_at port_of
sent_own t l s port own at =
    sym (ap (λ b. b && nat_eq (option_map_or (λ r. r.port) (slice_get t.systems l.from) 0) port) own
    ∙ ap (λ o. nat_eq (option_map_or (λ r. r.port) o 0) port) at)

-- a system that stands at a port hears there
pub heard_there : (t : Rows) (system : ℕ) (s : SystemRow) (port : ℕ) → SystemsListen t →
    nat_lt system t.own ≡ true → slice_get t.systems system ≡ Some s → nat_eq s.port port ≡ true →
    is_some (listener_at t port) ≡ true
heard_there t system s port listen own at here =
    subst (λ (p : ℕ). is_some (listener_at t p) ≡ true) (eqb-true s.port port here)
    (ap is_some (listen.each system s at (ltb-true system t.own own)))

-- where a link's row isn't, no source is
pub beyond_is_none : (among : Among) (vl place : ℕ) → sent_beyond among vl ≡ Source place → ⊥
beyond_is_none among vl place = by (has_link among vl)
  where
    by : (b : Bool) → (if b then Elsewhere else Unknown) ≡ Source place → ⊥
    by true is = cc is
    by false is = cc is

-- ---- sites

module _ (t : Rows) (recorded : Recorded) (side : Side) (port : ℕ) where
  pub site_known : (is : Bool) → is ≡ is_some (listener_at t port) → recorded side port ≡ true →
      is_site t recorded side port ≡ is
  unfolding is_site
  site_known is heard known = ap (λ b. b && is_some (listener_at t port)) known ∙ sym heard

  pub site_unknown : recorded side port ≡ false → is_site t recorded side port ≡ false
  unfolding is_site
  site_unknown unknown = ap (λ b. b && is_some (listener_at t port)) unknown

-- ---- by the link that a frame names

module _ (t : Rows) (among : Among) (port : ℕ) (vl : VlId) where
  pub sent_at : (place : ℕ) (l : LinkRow) (is : Bool) → link_of t.links vl.0 ≡ Some place →
      slice_get t.links place ≡ Some l → is_sent_at t l port ≡ is →
      sent_by t among port vl ≡ (if is then Source place else Elsewhere)
  unfolding sent_by
  sent_at place l is found at sent =
      ap (sent_in t among port vl) found ∙ ap (sent_as t port place) at
      ∙ ap (λ (b : Bool). if b then Source place else Elsewhere) sent

  pub sent_nowhere : link_of t.links vl.0 ≡ None → sent_by t among port vl ≡ sent_beyond among vl.0
  unfolding sent_by
  sent_nowhere none = ap (sent_in t among port vl) none

module _ (t : Rows) (among : Among) (recorded : Recorded) (x : SiteFrame) where
  pub named_nothing : x.vl ≡ None → source_of t among recorded (came_at x) ≡ Nobody
  unfolding source_of
  named_nothing none = ap (named_as t among recorded (came_at x)) (sym x.named ∙ none)

  pub named_some : (vl : VlId) (is : Bool) → x.vl ≡ Some vl → is_site t recorded x.side x.port ≡ is →
      source_of t among recorded (came_at x) ≡ (if is then sent_by t among x.port vl else Nobody)
  unfolding source_of
  named_some vl is some site =
      ap (named_as t among recorded (came_at x)) (sym x.named ∙ some)
      ∙ ap (λ (b : Bool). if b then sent_by t among x.port vl else Nobody) site
