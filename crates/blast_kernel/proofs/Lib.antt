mod KindTables
