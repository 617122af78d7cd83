use Rattle.class_view.proofs.Lemmas.{List, length, drop, true, sym, ap, ◌∙◌, rules, view, View, Change, posted, rises, fold_adds, settles, gives}
use Rattle.std.proofs.Common.{◌≡◌, ◌≤◌, ◌++◌}
use Rattle.class_view.proofs.press.Press.publish.Goals as goal

pub publish_as-publisher-requires : goal.publish_as-publisher-requires
publish_as-publisher-requires g c next is =
    let p = c.feed-fed.new.publisher in let pending = drop p.behind p.log.items in
    rises p.desk.place.id (view p.desk.place) p.desk.shown.value next (pending, sym (fold_adds p.desk.shown.value pending) ∙ sym is)

pub invariant_of-press-2 : goal.invariant_of-press-2
invariant_of-press-2 g c =
    let p = c.feed-fed.new.publisher in
    let q = c.self.inside.publisher in
    let r = c.publish_as-publisher.result in
    let list : List Change = c.self.inside.replica in
    let desk = c.feed-fed.ensures.desk in
    let fed = c.feed-fed.result.0 in
    let most : fed ≤ length list = c.feed-fed.ensures.most in
    let pending : drop p.behind p.log.items ++ drop fed list ≡ drop q.behind q.log.items ++ drop c.self.inside.fed list = c.feed-fed.ensures.pending in
    let whole : p.desk.shown.value ++ (drop p.behind p.log.items ++ drop fed list) ≡ list =
    ap (λ d. d.shown.value ++ (drop p.behind p.log.items ++ drop fed list)) desk ∙ ap (λ (t : List Change). q.desk.shown.value ++ t) pending ∙ c.self.invariant.2 in
    let seen : (view p.desk.place).seen ≡ p.desk.shown.value = ap (λ d. (view {T = List Change} {V = View} d.place).seen) desk ∙ c.self.invariant.0 ∙ sym (ap (λ d. d.shown.value) desk) in
    let all : c.feed-fed.result.1 ≡ true = search rules in
    let e = settles p.desk.shown.value (drop p.behind p.log.items) list fed (view p.desk.place) (view r.0.desk.place) r.0.desk.shown.value (drop r.0.behind r.0.log.items) r.1 seen whole (c.feed-fed.ensures.full all) c.publish_as-publisher.ensures.values c.publish_as-publisher.ensures.rule in
    (e.0, most, e.1)

pub returns : goal.returns
returns g c =
    let p = c.feed-fed.new.publisher in
    let q = c.self.inside.publisher in
    let r = c.publish_as-publisher.result in
    let list : List Change = c.self.inside.replica in
    let desk = c.feed-fed.ensures.desk in
    let fed = c.feed-fed.result.0 in
    let pending : drop p.behind p.log.items ++ drop fed list ≡ drop q.behind q.log.items ++ drop c.self.inside.fed list = c.feed-fed.ensures.pending in
    let whole : p.desk.shown.value ++ (drop p.behind p.log.items ++ drop fed list) ≡ list =
    ap (λ d. d.shown.value ++ (drop p.behind p.log.items ++ drop fed list)) desk ∙ ap (λ (t : List Change). q.desk.shown.value ++ t) pending ∙ c.self.invariant.2 in
    let was : posted q.desk.shown.value list ≡ c.args.self = cc c.self.view_is in
    let is : posted p.desk.shown.value list ≡ c.args.self = ap (λ d. posted d.shown.value list) desk ∙ was in
    let all : c.feed-fed.result.1 ≡ true = search rules in
    gives p.desk.shown.value (drop p.behind p.log.items) list fed r.0.desk.shown.value (drop r.0.behind r.0.log.items) c.args.self r.1 is whole (c.feed-fed.ensures.full all) c.publish_as-publisher.ensures.values
