-- `clear_book` meets its contract. Assumes nothing.
use Rattle.book_building.proofs.clear_book.Goals as goal

pub returns : goal.returns
returns c =
    record {
      nodes = c.clear_numbers.ensures;
      names = c.clear_bytes.ensures;
      lines = c.clear_numbers-2.ensures;
      pool = c.clear_bytes-2.ensures;
    }
