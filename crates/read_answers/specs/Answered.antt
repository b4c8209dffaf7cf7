-- The struct's numbers with the outputs as they are then, as the definitions have an answer.
use Rattle.echo_spec.specs.Input.{Problem}
use Rattle.readback.specs.ReadAnswers as answers
use Rattle.read_answers.specs.declared.ReadAnswer.{ReadAnswer}

abbrev pub read_numbers : ReadAnswer → Problem → answers.ReadAnswer
read_numbers a p = record {
  number = a.number;
  sizes = record {
    nodes = a.nodes;
    bits = a.bits;
    side = a.side;
    roots = a.roots;
    names = a.names;
    variables = a.variables;
    anames = a.anames;
    arrays = a.arrays;
    fnames = a.fnames;
    functions = a.functions;
  };
  output = p;
}
