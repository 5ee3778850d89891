use Rattle.std.proofs.Common.{rules}
use Rattle.buffers.specs.Places.{Bytes}
use Rattle.body.specs.Laws.{Writing}
use Rattle.body.proofs.Laws.{accepts, refuses_first}
use Rattle.body.proofs.kind.read_body.Goals as goal

pub returns : goal.returns
returns g c =
    let b = c.args.body.now in
    let f = g.K.Format in
    let bs : Bytes b = λ i. search rules in
    record {
      answer = c.read.ensures.answer;
      accepts = accepts (λ m. Writing f.wrong f.bytes m b) (f.fault b) (f.says b) _ c.read.ensures.answer (λ e. g.met.K.Format.only b bs e) (λ m w. g.met.K.Format.every m b w);
      refuses = refuses_first (f.faulty b) (f.fault b) (f.says b) _ c.read.ensures.answer (g.met.K.Format.smallest b);
    }
