-- Laws of what becomes of a link, as a source of items has to give them.
use Rattle.std.proofs.Common.{◌∙◌, ap, [], ◌++◌, refl}
use Rattle.std.proofs.KnownBytes.{Appends-nil, Appends-trans, Consumes-nil, Consumes-trans}
use Rattle.su_client.specs.Link.{LinkState, Follows}

pub follows_itself : (a : LinkState) → Follows a a
follows_itself a = record {
  output = [];
  written = Appends-nil a.held;
  input = [];
  read = Consumes-nil a.known;
  no_more = λ failed. refl;
}

pub follows_on : (a b c : LinkState) → Follows a b → Follows b c → Follows a c
follows_on a b c p q = record {
  output = p.output ++ q.output;
  written = Appends-trans a.held b.held c.held p.output q.output p.written q.written;
  input = p.input ++ q.input;
  read = Consumes-trans a.known b.known c.known p.input q.input p.read q.read;
  no_more = λ failed.
      let same = p.no_more failed in
      q.no_more (ap (λ (l : LinkState). l.failed) same ∙ failed) ∙ same;
}
