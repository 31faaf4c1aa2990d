use Rattle.std.proofs.Common.{◌≡◌, ℕ, List, []}
use Rattle.std.specs.Prelude.{Contains}
use Rattle.std.specs.Global.{Vec}
use Rattle.serde_json.specs.Data.{Data}
use Rattle.serde_json.specs.View.{view}
use Rattle.su_engine.specs.Pairs.{pairs_of}
use Rattle.su_engine.specs.declared.engines.Pair.{Pair}
use Rattle.su_gateway.specs.Replies.{IsFound, IsNone}
use Rattle.su_gateway.specs.declared.targets.Target.{Target}
use Rattle.su_etcd.specs.Told.{Has, Lacked}
use Rattle.su_etcd.proofs.ToldLemmas.{one_found, one_lacked, weaker}
use Rattle.su_etcd.proofs.etcds.Etcd.pairs_at.Goals as goal

pub returns-clause-found : goal.returns-clause-found
returns-clause-found g c =
    let told : Target → List ℕ → List ℕ → Type 0 = λ t q r. g.W.Wire.told c.ask_for.new.self.wire t q r in
    let it = c.in_ok-reply.ensures.told in
    let d : Data = view c.in_ok-reply.reply in
    let Is : Vec Pair → Type 0 = λ pairs. (p : List ℕ × List ℕ) → Contains (pairs_of pairs.items) p → IsFound d p.0 p.1 in
    let Found : Vec Pair → Type 0 = λ pairs. (p : List ℕ × List ℕ) → Contains (pairs_of pairs.items) p → p.0 ≡ c.args.key.now → Has told c.ask_for.new.self.lead p.0 p.1 in
    weaker Is Found (λ pairs is p has of. one_found told c.args.self.now.lead c.ask_for.new.self.lead c.ask_for.ensures.lead c.in_ok-text.text.items it.0 d it.2 c.args.key.now c.in_ok-text.ensures it.1 p (is p has) of) c.found_pairs.result c.found_pairs.ensures.found

pub returns-clause-none : goal.returns-clause-none
returns-clause-none g c =
    let told : Target → List ℕ → List ℕ → Type 0 = λ t q r. g.W.Wire.told c.ask_for.new.self.wire t q r in
    let it = c.in_ok-reply.ensures.told in
    let d : Data = view c.in_ok-reply.reply in
    let Is : Vec Pair → Type 0 = λ pairs. pairs.items ≡ [] → IsNone d in
    let None' : Vec Pair → Type 0 = λ pairs. pairs.items ≡ [] → Lacked told c.args.key.now in
    weaker Is None' (λ pairs is none. one_lacked told c.args.self.now.lead c.ask_for.new.self.lead c.ask_for.ensures.lead c.in_ok-text.text.items it.0 d it.2 c.args.key.now c.in_ok-text.ensures it.1 (is none)) c.found_pairs.result c.found_pairs.ensures.none
