use Rattle.tl_server.proofs.sending.put_texts.Goals as goal

pub returns-clause-whole : goal.returns-clause-whole
returns-clause-whole g c =
    rw (
      c.beside-allow_name.ensures,
      c.beside-allow_end.ensures,
      c.beside-kind_name.ensures,
      c.beside-kind_text.ensures,
      c.beside-kind_end.ensures,
    ) at c.write_pieces.ensures.whole

pub returns-clause-part : goal.returns-clause-part
returns-clause-part g c =
    rw (
      c.beside-allow_name.ensures,
      c.beside-allow_end.ensures,
      c.beside-kind_name.ensures,
      c.beside-kind_text.ensures,
      c.beside-kind_end.ensures,
    ) at c.write_pieces.ensures.part
