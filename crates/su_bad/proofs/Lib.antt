mod ShownAt
