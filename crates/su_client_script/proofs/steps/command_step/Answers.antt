use Rattle.std.proofs.Common.{◌≡◌, ℕ, List, Ok, refl, subst}
use Rattle.su_bytes.specs.declared.file_ids.FileId.{FileId}
use Rattle.su_node.specs.Name.{Name}
use Rattle.su_client_work.specs.Member.{IsClear, Lists, Shows}
use Rattle.su_client_work.specs.Turn.{HasLooked}
use Rattle.su_client_work.proofs.Public.{works_takes}
use Rattle.su_desk_script.specs.Answer.{bytes_text}
use Rattle.su_client_script.specs.Text.{listing_shown}
use Rattle.su_client_script.proofs.Carrying.{on_ok_so, asks_so}
use Rattle.su_client_script.proofs.steps.command_step.Goals as goal

pub returns-in-List-clause-works : goal.returns-in-List-clause-works
returns-in-List-clause-works g c = works_takes c.args.member.now c.list-names.new.self c.list-names.ensures.takes

pub returns-in-Read-clause-works : goal.returns-in-Read-clause-works
returns-in-Read-clause-works g c = works_takes c.args.member.now c.read-bytes.new.self c.read-bytes.ensures.takes

pub returns-in-List-clause-carries : goal.returns-in-List-clause-carries
returns-in-List-clause-carries g c =
    rw c.in-List.is (on_ok_so c.tell_names.result _ _
    (asks_so c.list-names.result (HasLooked g.P.Surroundings.may_connect) c.args.member.now c.list-names.new.self (g.O.Write.contents c.args.output.now) (g.O.Write.contents c.tell_names.new.output)
    (λ text. (names : List (Name × FileId)) × (IsClear c.list-names.new.self → Lists c.list-names.new.self.holding c.in-List.path.items names) × (text ≡ listing_shown names))
    (λ names. listing_shown names.items) (λ names. Lists c.list-names.new.self.holding c.as_slice.result.now names.items)
    c.list-names.ensures.takes c.list-names.ensures.looks c.list-names.ensures.lists
    (λ names tells. (names.items, (λ clear. subst (λ path. Lists c.list-names.new.self.holding path names.items) c.as_slice.ensures.value (tells clear)), refl)))
    c.tell_names.ensures.printed)

pub returns-in-Read-clause-carries : goal.returns-in-Read-clause-carries
returns-in-Read-clause-carries g c =
    rw c.in-Read.is (on_ok_so c.tell_bytes.result _ _
    (asks_so c.read-bytes.result (HasLooked g.P.Surroundings.may_connect) c.args.member.now c.read-bytes.new.self (g.O.Write.contents c.args.output.now) (g.O.Write.contents c.tell_bytes.new.output)
    (λ text. (bytes : List ℕ) × (IsClear c.read-bytes.new.self → Shows c.read-bytes.new.self.holding c.in-Read.path.items c.in-Read.off c.in-Read.len bytes) × (text ≡ bytes_text (Ok bytes)))
    (λ bytes. bytes_text (Ok bytes.items)) (λ bytes. Shows c.read-bytes.new.self.holding c.as_slice-in-Read.result.now c.in-Read.off c.in-Read.len bytes.items)
    c.read-bytes.ensures.takes c.read-bytes.ensures.looks c.read-bytes.ensures.shows
    (λ bytes tells. (bytes.items, (λ clear. subst (λ path. Shows c.read-bytes.new.self.holding path c.in-Read.off c.in-Read.len bytes.items) c.as_slice-in-Read.ensures.value (tells clear)), refl)))
    c.tell_bytes.ensures.printed)
