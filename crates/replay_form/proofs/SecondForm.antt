-- The same header in form 2 obeys the rules where the header does.
use Rattle.std.proofs.Common.{ℕ, ◌≤◌, ◌==◌, Bool, true, false, inr, refl, arith}
use Rattle.vrt_fields.specs.Route.{IsRoute}
use Rattle.vrt_fields.specs.declared.route.Route.{Route}
use Rattle.replay_form.specs.HeadFields.{IsRouteCount, most_pending}
use Rattle.replay_form.specs.HeadValues.{AreHeadValues}
use Rattle.replay_form.specs.SecondForm.{in_second_form}
use Rattle.replay_form.specs.declared.record_head.RecordHead.{RecordHead}

more_pending : (second : Bool) (pending : ℕ) → pending ≤ most_pending second → pending ≤ most_pending true
more_pending true pending h = h
more_pending false pending h = omega arith

more_routes : (second : Bool) (max_words window pending routes : ℕ) → IsRouteCount second max_words window pending routes → IsRouteCount true max_words window pending routes
more_routes true max_words window pending routes h = h
more_routes false max_words window pending routes h = record { most = omega (arith, h.most); buffers = h.buffers }

more_ports : (second : Bool) (route : Route) → IsRoute second route → IsRoute true route
more_ports true route h = h
more_ports false route h = record {
  stream = h.stream;
  from = h.from;
  to = omega (arith, h.to);
  places = h.places;
  fit = h.fit;
  differ = h.differ;
  behind = h.behind;
}

pub second_values : (head : RecordHead) → AreHeadValues head → AreHeadValues (in_second_form head)
second_values head values = record {
  form = inr refl;
  profile = values.profile;
  max_words_from = values.max_words_from;
  max_words_to = values.max_words_to;
  limits = values.limits;
  pending = more_pending (head.form == 2) head.limits.pending values.pending;
  count = more_routes (head.form == 2) head.max_words head.limits.data_window head.limits.pending _ values.count;
  identity = values.identity;
  initial = values.initial;
  bounds_all = values.bounds_all;
  bounds = values.bounds;
  routes = record { each = λ k other h. more_ports (head.form == 2) _ (values.routes.each k other h); rising = values.routes.rising };
}
